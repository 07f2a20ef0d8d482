-- How contracts see the nine tables: as finite maps from keys to rows (clause 1.3).
use Rattle.std.specs.Prelude.{◌≡◌, ℕ, ◌+◌, ◌-◌, Bool, ◌&&◌, ◌==◌, List, [], ◌∷◌, ◌++◌, length, take, unwrap_or}
use Rattle.std.specs.List.{list_all, filter, slice_get}
use Rattle.std.specs.declared.cmp.Ordering.{Ordering}
use Rattle.std.specs.Ordering.{nat_cmp}
use Rattle.std.specs.FinMap as map
use Rattle.rows.specs.declared.keys.DistrictKey.{DistrictKey}
use Rattle.rows.specs.declared.keys.StockKey.{StockKey}
use Rattle.rows.specs.declared.keys.CustomerKey.{CustomerKey}
use Rattle.rows.specs.declared.keys.OrderKey.{OrderKey}
use Rattle.rows.specs.declared.keys.OrderLineKey.{OrderLineKey}
use Rattle.rows.specs.declared.records.Item.{Item}
use Rattle.rows.specs.declared.records.Warehouse.{Warehouse}
use Rattle.rows.specs.declared.records.District.{District}
use Rattle.rows.specs.declared.records.Stock.{Stock}
use Rattle.rows.specs.declared.records.Customer.{Customer}
use Rattle.rows.specs.declared.records.History.{History}
use Rattle.rows.specs.declared.records.Order.{Order}
use Rattle.rows.specs.declared.records.NewOrder.{NewOrder}
use Rattle.rows.specs.declared.records.OrderLine.{OrderLine}
use Rattle.rows.specs.Keys.{district_cmp, stock_cmp, customer_cmp, order_cmp, line_cmp, order_of_line}
use Rattle.rows.specs.Ranged.{is_between}
use Rattle.rows.specs.declared.limits.TheConstants.{LAST_LINE}
use Rattle.schema.specs.declared.scale.Scale.{Scale}
use Rattle.schema.specs.Scale.{has_item, has_warehouse, has_district, has_stock, has_customer, customer_key}
use Rattle.schema.specs.EachRow.{EachRow}

-- HISTORY: the list of each district's payments, oldest first
abbrev pub HistoryTable : Type 0
HistoryTable = map.FinMap district_cmp (List History)

-- the payments of a district, oldest first
abbrev pub list_at : HistoryTable → DistrictKey → List History
list_at histories key = unwrap_or (map.get histories key) []

-- HISTORY with one more payment at the end of the district's list
abbrev pub with_payment : HistoryTable → DistrictKey → History → HistoryTable
with_payment histories key row = map.insert histories key (list_at histories key ++ row ∷ [])

-- the list without its last payment
abbrev pub without_last : List History → List History
without_last rows = take (length rows - 1) rows

-- HISTORY without the last payment of the district's list
abbrev pub without_payment : HistoryTable → DistrictKey → HistoryTable
without_payment histories key = map.insert histories key (without_last (list_at histories key))

-- The nine tables and their scale, as contracts see them.
pub record Database : Type 0 where
  pub scale : Scale
  pub items : map.FinMap nat_cmp Item
  pub warehouses : map.FinMap nat_cmp Warehouse
  pub districts : map.FinMap district_cmp District
  pub stocks : map.FinMap stock_cmp Stock
  pub customers : map.FinMap customer_cmp Customer
  pub histories : HistoryTable
  pub orders : map.FinMap order_cmp Order
  pub new_orders : map.FinMap order_cmp NewOrder
  pub lines : map.FinMap line_cmp OrderLine

-- ---- writes of one row

-- the tables with this row of the warehouse
abbrev pub with_warehouse_row : Database → ℕ → Warehouse → Database
with_warehouse_row t warehouse row = record t { warehouses = map.insert t.warehouses warehouse row }

-- the tables with this row of the district
abbrev pub with_district_row : Database → DistrictKey → District → Database
with_district_row t key row = record t { districts = map.insert t.districts key row }

-- the tables with this row of STOCK
abbrev pub with_stock_row : Database → StockKey → Stock → Database
with_stock_row t key row = record t { stocks = map.insert t.stocks key row }

-- the tables with this row of the customer
abbrev pub with_customer_row : Database → CustomerKey → Customer → Database
with_customer_row t key row = record t { customers = map.insert t.customers key row }

-- the tables with one more payment at the end of the district's list
abbrev pub with_history_row : Database → DistrictKey → History → Database
with_history_row t key row = record t { histories = with_payment t.histories key row }

-- the tables without the last payment of the district's list
abbrev pub without_history_row : Database → DistrictKey → Database
without_history_row t key = record t { histories = without_payment t.histories key }

-- ---- the rules of the scale

-- whether every payment of a list refers to a customer of the scale
abbrev pub are_payers_known : Scale → List History → Bool
are_payers_known scale rows = list_all (λ row. has_customer scale row.customer) rows

-- the key of an order's customer, who is of the order's district
abbrev pub customer_of_order : OrderKey → Order → CustomerKey
customer_of_order key row = record { w_id = key.w_id; d_id = key.d_id; c_id = row.c_id }

-- whether O_ID is from 1 to 9,999,999
abbrev pub is_order_id : ℕ → Bool
is_order_id number = is_between 1 9999999 number

-- whether OL_NUMBER is from 1 to LAST_LINE
abbrev pub is_line_number : ℕ → Bool
is_line_number number = is_between 1 LAST_LINE number

-- each payment refers to a customer of the scale
abbrev pub PayersKnown : Database → Type 0
PayersKnown t = EachRow (λ _ rows. are_payers_known t.scale rows) t.histories

-- each O_ID is in its range
abbrev pub OrdersNumbered : Database → Type 0
OrdersNumbered t = EachRow (λ key _. is_order_id key.o_id) t.orders

-- each order refers to a customer of the scale, of its own district
abbrev pub OrdersHaveCustomers : Database → Type 0
OrdersHaveCustomers t = EachRow (λ key row. has_customer t.scale (customer_of_order key row)) t.orders

-- each row of NEW-ORDER has its row of ORDER
abbrev pub NewOrdersHaveOrders : Database → Type 0
NewOrdersHaveOrders t = EachRow (λ key _. map.contains_key t.orders key) t.new_orders

-- each line has its row of ORDER
abbrev pub LinesHaveOrders : Database → Type 0
LinesHaveOrders t = EachRow (λ key _. map.contains_key t.orders (order_of_line key)) t.lines

-- each OL_NUMBER is in its range
abbrev pub LinesNumbered : Database → Type 0
LinesNumbered t = EachRow (λ key _. is_line_number key.number) t.lines

-- each line refers to an item of the scale
abbrev pub LinesHaveItems : Database → Type 0
LinesHaveItems t = EachRow (λ _ row. has_item t.scale row.i_id) t.lines

-- the supplying warehouse of each line is in the scale
abbrev pub LinesHaveSuppliers : Database → Type 0
LinesHaveSuppliers t = EachRow (λ _ row. has_warehouse t.scale row.supply_w_id) t.lines

-- The keys of six tables are exactly those of the scale; HISTORY has a list of payments for each district. Rows refer
-- only to rows that exist, and the numbers of orders and lines are in their ranges.
pub record IsWithinScale (t : Database) : Type 0 where
  pub items : (key : ℕ) → map.contains_key t.items key ≡ has_item t.scale key
  pub warehouses : (key : ℕ) → map.contains_key t.warehouses key ≡ has_warehouse t.scale key
  pub districts : (key : DistrictKey) → map.contains_key t.districts key ≡ has_district t.scale key
  pub stocks : (key : StockKey) → map.contains_key t.stocks key ≡ has_stock t.scale key
  pub customers : (key : CustomerKey) → map.contains_key t.customers key ≡ has_customer t.scale key
  pub histories : (key : DistrictKey) → map.contains_key t.histories key ≡ has_district t.scale key
  pub payers_known : PayersKnown t
  pub orders_numbered : OrdersNumbered t
  pub orders_have_customers : OrdersHaveCustomers t
  pub new_orders_have_orders : NewOrdersHaveOrders t
  pub lines_have_orders : LinesHaveOrders t
  pub lines_numbered : LinesNumbered t
  pub lines_have_items : LinesHaveItems t
  pub lines_have_suppliers : LinesHaveSuppliers t

-- ---- selections of rows

-- the rows whose keys pass the test, in key order
abbrev pub rows_where : {K X : Type 0} {R : K → K → Ordering} → (K → Bool) → map.FinMap R X → List (K × X)
rows_where test table = filter (λ e. test e.0) (map.entries table)

-- whether the order is of this district
abbrev pub is_of_district : DistrictKey → OrderKey → Bool
is_of_district home key = (key.w_id == home.w_id) && (key.d_id == home.d_id)

-- whether the line is of an order of this district
abbrev pub is_line_of_district : DistrictKey → OrderLineKey → Bool
is_line_of_district home key = is_of_district home (order_of_line key)

-- whether the line is of this order
abbrev pub is_of_order : OrderKey → OrderLineKey → Bool
is_of_order order key = (key.w_id == order.w_id) && ((key.d_id == order.d_id) && (key.o_id == order.o_id))

-- the rows are those of the district's customers in the order of C_ID, from 1
abbrev pub AreCustomersOf : Database → DistrictKey → List Customer → Type 0
AreCustomersOf t home rows = (c : ℕ) → slice_get rows c ≡ map.get t.customers (customer_key home (c + 1))
