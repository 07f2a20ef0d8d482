-- New-Order (clause 2.4).
use Rattle.std.specs.Prelude.{ℕ, ◌+◌, ◌*◌, ◌==◌, Bool, ◌&&◌, not, pos, List, [], ◌∷◌, length, map, take, Option, Some, None, unwrap_or}
use Rattle.std.specs.List.{filter, list_all, sum_by}
use Rattle.std.specs.Option.{option_map, option_and_then}
use Rattle.std.specs.FinMap as table
use Rattle.amounts.specs.Total.{total_of}
use Rattle.rows.specs.Keys.{stock_cmp}
use Rattle.rows.specs.Ranged.{in_range}
use Rattle.rows.specs.Restock.{restocked}
use Rattle.rows.specs.Brand.{brand_of}
use Rattle.rows.specs.StockInfo.{dist_info_of}
use Rattle.rows.specs.declared.keys.StockKey.{StockKey}
use Rattle.rows.specs.declared.keys.OrderKey.{OrderKey}
use Rattle.rows.specs.declared.keys.DistrictKey.{DistrictKey}
use Rattle.rows.specs.declared.records.Item.{Item}
use Rattle.rows.specs.declared.records.Warehouse.{Warehouse}
use Rattle.rows.specs.declared.records.District.{District}
use Rattle.rows.specs.declared.records.Stock.{Stock}
use Rattle.rows.specs.declared.records.Customer.{Customer}
use Rattle.rows.specs.declared.records.Order.{Order}
use Rattle.rows.specs.declared.records.OrderLine.{OrderLine}
use Rattle.schema.specs.Scale.{customer_key}
use Rattle.schema.specs.Database.{Database}
use Rattle.schema.specs.MapRows.{map_rows}
use Rattle.schema.specs.OrderRows.{with_order}
use Rattle.requests.specs.declared.new_order.NewOrder.{NewOrder}
use Rattle.requests.specs.declared.new_order.OrderedLine.{OrderedLine}
use Rattle.requests.specs.declared.new_order.NewOrderLine.{NewOrderLine}
use Rattle.requests.specs.declared.new_order.NewOrderReply.{NewOrderReply}
use Rattle.requests.specs.declared.reply.Shown.TheVariants.{NewOrder as OrderShown}
use Rattle.requests.specs.declared.reply.Fault.TheVariants.{NoCustomer, NoItem, Range}
use Rattle.machine.specs.Outcome.{Outcome, done, rolled_back}

-- ---- the stock (clause 2.4.2.2)

-- the key of the row of STOCK that supplies a line
abbrev pub stock_key_of : OrderedLine → StockKey
stock_key_of line = record { w_id = line.supply_w_id; i_id = line.i_id }

-- the lines that a row of STOCK supplies
abbrev pub taken_from : StockKey → List OrderedLine → List OrderedLine
taken_from key lines = filter (λ line. (line.supply_w_id == key.w_id) && (line.i_id == key.i_id)) lines

-- S_QUANTITY after these lines, one after another
abbrev pub quantity_after : ℕ → List OrderedLine → ℕ
quantity_after quantity [] = quantity
quantity_after quantity (line ∷ lines) = quantity_after (restocked quantity line.quantity) lines

-- whether a warehouse other than the home warehouse supplies the line
abbrev pub is_remote : ℕ → OrderedLine → Bool
is_remote home line = not (line.supply_w_id == home)

-- a counter, if it is in range
abbrev pub counted : ℕ → Option ℕ
counted number = in_range 0 999999999 number

-- the row with this quantity and these counters, if all counters are in range
abbrev pub with_counters : Stock → ℕ → Option ℕ → Option ℕ → Option ℕ → Option Stock
with_counters row quantity (Some ytd) (Some order_cnt) (Some remote_cnt) =
    Some (record row { quantity = quantity; ytd = ytd; order_cnt = order_cnt; remote_cnt = remote_cnt })
with_counters row quantity _ _ _ = None

-- the row after these lines are taken from it: S_YTD grows by their quantities, S_ORDER_CNT by 1 for each line, and
-- S_REMOTE_CNT by 1 for each remote line
abbrev pub stock_taken : ℕ → Stock → List OrderedLine → Option Stock
stock_taken home row lines =
    with_counters row (quantity_after row.quantity lines)
    (counted (row.ytd + sum_by (λ line. line.quantity) lines))
    (counted (row.order_cnt + length lines))
    (counted (row.remote_cnt + length (filter (is_remote home) lines)))

-- the table STOCK
abbrev pub Stocks : Type 0
Stocks = table.FinMap stock_cmp Stock

-- all rows of STOCK at once, each after the lines that it supplies
abbrev pub stocks_taken : ℕ → Stocks → List OrderedLine → Stocks
stocks_taken home stocks lines = map_rows (λ key row. unwrap_or (stock_taken home row (taken_from key lines)) row) stocks

-- ---- the rows that a line reads

-- all values, if none is missing
abbrev pub all_there : {X : Type 0} → List (Option X) → Option (List X)
all_there [] = Some []
all_there (None ∷ found) = None
all_there (Some x ∷ found) = option_map (λ xs. x ∷ xs) (all_there found)

-- the rows of ITEM of the lines, in their order; None if the item of a line is missing
abbrev pub items_found : Database → List OrderedLine → Option (List Item)
items_found t lines = all_there (map (λ line. table.get t.items line.i_id) lines)

-- the row of STOCK that supplies a line of the order, before the order; None if the row is missing or a counter would
-- leave its range
abbrev pub supply : Database → NewOrder → OrderedLine → Option Stock
supply t n line =
    option_and_then (λ row. option_map (λ new_row. row) (stock_taken n.home.w_id row (taken_from (stock_key_of line) n.lines)))
    (table.get t.stocks (stock_key_of line))

-- the rows that supply the lines, in their order; None if one is missing or a counter would leave its range
abbrev pub supplies : Database → NewOrder → Option (List Stock)
supplies t n = all_there (map (supply t n) n.lines)

-- ---- the rows that are added (clause 2.4.2.2)

-- OL_AMOUNT: the quantity times I_PRICE
abbrev pub line_amount : OrderedLine → Item → ℕ
line_amount line item = line.quantity * item.price

-- the row of ORDER-LINE
abbrev pub line_row : DistrictKey → OrderedLine → Item → Stock → OrderLine
line_row home line item stock = record {
  i_id = line.i_id;
  supply_w_id = line.supply_w_id;
  delivery_d = None;
  quantity = line.quantity;
  amount = line_amount line item;
  dist_info = dist_info_of stock home.d_id;
}

-- the rows of ORDER-LINE of all lines, by OL_NUMBER
abbrev pub line_rows : DistrictKey → List OrderedLine → List Item → List Stock → List OrderLine
line_rows home (line ∷ lines) (item ∷ items) (stock ∷ stocks) = line_row home line item stock ∷ line_rows home lines items stocks
line_rows home _ _ _ = []

-- the row of ORDER: without a carrier, and all local if no line is remote
abbrev pub order_row : NewOrder → Order
order_row n = record {
  c_id = n.c_id;
  entry_d = n.moment;
  carrier_id = None;
  ol_cnt = length n.lines;
  all_local = list_all (λ line. line.supply_w_id == n.home.w_id) n.lines;
}

-- the key of an order of the district
abbrev pub order_key : DistrictKey → ℕ → OrderKey
order_key home o_id = record { w_id = home.w_id; d_id = home.d_id; o_id = o_id }

-- ---- what is shown (clause 2.4.3.3)

-- the shown line, from the row of STOCK before the order and S_QUANTITY after the line
abbrev pub line_shown : OrderedLine → Item → Stock → ℕ → NewOrderLine
line_shown line item stock quantity = record {
  supply_w_id = line.supply_w_id;
  i_id = line.i_id;
  name = item.name;
  quantity = line.quantity;
  stock_quantity = quantity;
  brand = brand_of item.«data» stock.«data»;
  price = item.price;
  amount = line_amount line item;
}

-- The shown lines from OL_NUMBER `number` on. Each shows S_QUANTITY after the lines of the order up to and including
-- itself.
abbrev pub lines_shown : List OrderedLine → ℕ → List OrderedLine → List Item → List Stock → List NewOrderLine
lines_shown order number (line ∷ lines) (item ∷ items) (stock ∷ stocks) =
    line_shown line item stock (quantity_after stock.quantity (taken_from (stock_key_of line) (take number order)))
    ∷ lines_shown order (number + 1) lines items stocks
lines_shown order number _ _ _ = []

-- the sum of the lines' amounts
abbrev pub sum_of : List OrderLine → ℕ
sum_of rows = sum_by (λ row. row.amount) rows

-- the reply
abbrev pub new_order_reply : NewOrder → Warehouse → District → Customer → List OrderLine → List NewOrderLine → NewOrderReply
new_order_reply n w d c rows shown = record {
  last = c.last;
  credit = c.credit;
  discount = c.discount;
  warehouse_tax = w.tax;
  district_tax = d.tax;
  o_id = d.next_o_id;
  entry_d = n.moment;
  total = pos (total_of (sum_of rows) c.discount w.tax d.tax);
  lines = shown;
}

-- ---- the outcome of a New-Order: all tables at once

-- D_NEXT_O_ID grows by 1
abbrev pub district_ordered : District → Option District
district_ordered row = option_map (λ next. record row { next_o_id = next }) (in_range 1 10000000 (row.next_o_id + 1))

-- the rows of the district and of STOCK change, and the order is added with its row of NEW-ORDER and its lines
abbrev pub placed : Database → NewOrder → ℕ → District → List OrderLine → Database
placed t n o_id district rows =
    with_order
    (record t {
      districts = table.insert t.districts n.home district;
      stocks = stocks_taken n.home.w_id t.stocks n.lines;
    })
    (order_key n.home o_id) (order_row n) rows

-- The rows that a New-Order finds: those of its warehouse, its district and its customer, and its lines' rows of ITEM.
pub record FoundRows : Type 0 where
  pub warehouse : Warehouse
  pub district : District
  pub customer : Customer
  pub items : List Item

-- these rows together
abbrev pub found_rows : Warehouse → District → Customer → List Item → FoundRows
found_rows w d c items = record { warehouse = w; district = d; customer = c; items = items }

-- the outcome if every item exists: the order is placed if D_NEXT_O_ID and every row of STOCK stay in range, else
-- nothing changes
abbrev pub placed_within : Database → NewOrder → FoundRows → Option District → Option (List Stock) → Outcome
placed_within t n found (Some district) (Some stocks) =
    let rows = line_rows n.home n.lines found.items stocks in
    done (placed t n found.district.next_o_id district rows)
    (OrderShown (new_order_reply n found.warehouse found.district found.customer rows (lines_shown n.lines 1 n.lines found.items stocks)))
placed_within t n found _ _ = rolled_back t Range

-- The outcome if the rows of warehouse, district and customer exist. If a line's item is missing, the fault still shows
-- the number that the order would have got (clause 2.4.3.4).
abbrev pub placed_of : Database → NewOrder → Warehouse → District → Customer → Option (List Item) → Outcome
placed_of t n w d c (Some items) = placed_within t n (found_rows w d c items) (district_ordered d) (supplies t n)
placed_of t n w d c None = rolled_back t (NoItem c.last c.credit d.next_o_id)

-- the outcome, given the rows of warehouse, district and customer
abbrev pub ordered : Database → NewOrder → Option Warehouse → Option District → Option Customer → Outcome
ordered t n (Some w) (Some d) (Some c) = placed_of t n w d c (items_found t n.lines)
ordered t n _ _ _ = rolled_back t NoCustomer

-- the outcome of a New-Order
abbrev pub new_order : Database → NewOrder → Outcome
new_order t n =
    ordered t n (table.get t.warehouses n.home.w_id) (table.get t.districts n.home) (table.get t.customers (customer_key n.home n.c_id))
