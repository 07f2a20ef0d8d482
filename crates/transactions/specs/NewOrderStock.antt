-- How one group of stock sells an order's lines, and how the lines that all groups sold are put in order.
use Rattle.std.specs.Prelude.{◌≡◌, ◌≤◌, ◌-◌, ◌%◌, ℕ, List, [], ◌∷◌, map, slice_set, Option, Some, option_map, All, IsTrue}
use Rattle.std.specs.FinMap as table
use Rattle.rows.specs.declared.limits.TheConstants.{STOCK_GROUPS}
use Rattle.schema.specs.Database.{Database}
use Rattle.requests.specs.declared.group.Group.TheVariants as g
use Rattle.requests.specs.declared.new_order.NewOrder.{NewOrder}
use Rattle.tickets.specs.Claims.{ClaimView}
use Rattle.slices.specs.SliceView.{SliceView}
use Rattle.machine.specs.NewOrder.{Stocks, all_there, stock_key_of}
use Rattle.machine.specs.NewOrderLines.{line_placed}
use Rattle.transactions.specs.declared.new_order.LineSold.{LineSold}
use Rattle.transactions.specs.declared.new_order.stock.StockPut.{StockPut}
use Rattle.transactions.specs.declared.new_order.stock.Sale.{Sale}
use Rattle.transactions.specs.NewOrder.{Numbered, lines_sold}

-- the row of STOCK that supplies the line, once all lines of the order were taken from it
abbrev pub line_put : Database → NewOrder → Numbered → Option StockPut
line_put t n line = option_map (λ placed. record { key = stock_key_of line.1; row = placed.stock }) (line_placed t n line.0 line.1)

-- all of these lines were sold, and these are the rows of STOCK that are to be put for them
pub record IsSaleOf (t : Database) (n : NewOrder) (lines : List Numbered) (sale : Sale) : Type 0 where
  pub sold : lines_sold t n lines ≡ Some sale.sold.items
  pub puts : all_there (map (line_put t n) lines) ≡ Some sale.puts.items

-- the stock with these rows put, the last first
abbrev pub puts_done : List StockPut → Stocks → Stocks
puts_done [] stocks = stocks
puts_done (put ∷ puts) stocks = table.insert (puts_done puts stocks) put.key put.row

-- the slice with these rows put into STOCK, the last first
abbrev pub with_stocks_put : List StockPut → SliceView → SliceView
with_stocks_put puts slice = record slice { tables = record slice.tables { stocks = puts_done puts slice.tables.stocks } }

-- the rows are of the claim's group, and STOCK has a row at the key of each
abbrev pub AreOfGroup : ClaimView → Stocks → List StockPut → Type 0
AreOfGroup claim stocks puts =
    All (λ put. (claim.group ≡ g.Stock put.key.w_id (put.key.i_id % STOCK_GROUPS)) × IsTrue (table.contains_key stocks put.key)) puts

-- ---- lines in order

-- each line has a number from 1 to this count
abbrev pub AreNumbered : ℕ → List LineSold → Type 0
AreNumbered count sold = All (λ line. (1 ≤ line.number) × (line.number ≤ count)) sold

-- the places with these lines put at their numbers, the last first
abbrev pub filled : List LineSold → List (Option LineSold) → List (Option LineSold)
filled [] places = places
filled (line ∷ sold) places = slice_set (filled sold places) (line.number - 1) (Some line)
