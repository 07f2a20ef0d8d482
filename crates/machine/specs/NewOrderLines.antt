-- The results of the lines of a New-Order, one after another (clause 2.4.2.2).
use Rattle.std.specs.Prelude.{ℕ, ◌+◌, ◌≤◌, IsTrue, List, [], ◌∷◌, length, map, take, Option, Some, None}
use Rattle.std.specs.List.{All, list_all}
use Rattle.std.specs.Option.{option_map}
use Rattle.std.specs.FinMap as table
use Rattle.rows.specs.declared.records.District.{District}
use Rattle.rows.specs.declared.records.Item.{Item}
use Rattle.rows.specs.declared.records.Stock.{Stock}
use Rattle.rows.specs.declared.records.OrderLine.{OrderLine}
use Rattle.rows.specs.declared.limits.TheConstants.{MOST_LINES}
use Rattle.schema.specs.Database.{Database}
use Rattle.schema.specs.OrderRows.{with_order}
use Rattle.requests.specs.declared.new_order.NewOrder.{NewOrder}
use Rattle.requests.specs.declared.new_order.OrderedLine.{OrderedLine}
use Rattle.requests.specs.declared.new_order.NewOrderLine.{NewOrderLine}
use Rattle.machine.specs.declared.new_order_lines.LinePlaced.{LinePlaced}
use Rattle.machine.specs.NewOrder.{Stocks, stock_key_of, taken_from, quantity_after, stock_taken, line_row, line_shown, order_key, order_row}

-- ---- the precondition

-- each line orders a quantity from 1 to 10 (clause 2.4.1.5)
abbrev pub AreQuantities : List OrderedLine → Type 0
AreQuantities lines = All (λ line. (1 ≤ line.quantity) × (line.quantity ≤ 10)) lines

-- the order has 1 to MOST_LINES lines, each with a quantity from 1 to 10 (clause 2.4.1)
pub record IsOrderWithin (n : NewOrder) : Type 0 where
  pub some_line : 1 ≤ length n.lines
  pub most_lines : length n.lines ≤ MOST_LINES
  pub quantities : AreQuantities n.lines

-- each line's row of STOCK is stored
abbrev pub HaveStocks : Stocks → List OrderedLine → Type 0
HaveStocks stocks lines = IsTrue (list_all (λ line. table.contains_key stocks (stock_key_of line)) lines)

-- ---- the results of a line

-- its row of ORDER-LINE, the shown line, and its row of STOCK after all lines of the order
abbrev pub left_by : NewOrder → ℕ → OrderedLine → Item → Stock → Stock → LinePlaced
left_by n number line item stock taken = record {
  row = line_row n.home line item stock;
  shown = line_shown line item stock (quantity_after stock.quantity (taken_from (stock_key_of line) (take number n.lines)));
  stock = taken;
}

-- the results of a line; None if its item or its row of STOCK is missing, or a counter would leave its range
abbrev pub line_placed_by : NewOrder → ℕ → OrderedLine → Option Item → Option Stock → Option LinePlaced
line_placed_by n number line (Some item) (Some stock) =
    option_map (left_by n number line item stock) (stock_taken n.home.w_id stock (taken_from (stock_key_of line) n.lines))
line_placed_by n number line _ _ = None

-- the results of the line with that number, on these tables
abbrev pub line_placed : Database → NewOrder → ℕ → OrderedLine → Option LinePlaced
line_placed t n number line = line_placed_by n number line (table.get t.items line.i_id) (table.get t.stocks (stock_key_of line))

-- a value put before a list, if neither is missing
abbrev pub before_all : {X : Type 0} → Option X → Option (List X) → Option (List X)
before_all (Some x) (Some xs) = Some (x ∷ xs)
before_all _ _ = None

-- the results of the lines, from that number on; None if one of them can't be placed
abbrev pub lines_placed : Database → NewOrder → ℕ → List OrderedLine → Option (List LinePlaced)
lines_placed t n number [] = Some []
lines_placed t n number (line ∷ lines) = before_all (line_placed t n number line) (lines_placed t n (number + 1) lines)

-- ---- the results as three lists

-- the rows of ORDER-LINE, the shown lines, and the rows of STOCK
abbrev pub columns : List LinePlaced → List OrderLine × List NewOrderLine × List Stock
columns left = (map (λ l. l.row) left, map (λ l. l.shown) left, map (λ l. l.stock) left)

-- the table STOCK with these rows in place of those that supply the lines; the last is put first
abbrev pub stocks_put : List OrderedLine → List Stock → Stocks → Stocks
stocks_put (line ∷ lines) (row ∷ rows) stocks = table.insert (stocks_put lines rows stocks) (stock_key_of line) row
stocks_put _ _ stocks = stocks

-- the tables with the order, the row of its district, and these rows of STOCK for its lines
abbrev pub with_order_put : Database → NewOrder → ℕ → District → List OrderLine → List Stock → Database
with_order_put t n o_id district rows stocks =
    with_order
    (record t {
      districts = table.insert t.districts n.home district;
      stocks = stocks_put n.lines stocks t.stocks;
    })
    (order_key n.home o_id) (order_row n) rows
