-- Laws of the groups of requests, and of the contents of groups and the tables.
use Rattle.std.specs.Prelude.{◌≡◌, ◌≢◌, ◌≤◌, ℕ, List, Option, Some, None, count_by, if◌then◌else◌}
use Rattle.std.specs.declared.cmp.Ordering.{Ordering}
use Rattle.std.specs.Ordering.{nat_cmp}
use Rattle.std.specs.FinMap as map
use Rattle.rows.specs.declared.keys.DistrictKey.{DistrictKey}
use Rattle.rows.specs.declared.keys.StockKey.{StockKey}
use Rattle.rows.specs.declared.keys.CustomerKey.{CustomerKey}
use Rattle.rows.specs.declared.keys.OrderKey.{OrderKey}
use Rattle.rows.specs.declared.keys.OrderLineKey.{OrderLineKey}
use Rattle.rows.specs.declared.records.Item.{Item}
use Rattle.rows.specs.declared.records.Warehouse.{Warehouse}
use Rattle.rows.specs.declared.records.District.{District}
use Rattle.rows.specs.declared.records.Stock.{Stock}
use Rattle.rows.specs.declared.records.Customer.{Customer}
use Rattle.rows.specs.declared.records.History.{History}
use Rattle.rows.specs.declared.records.Order.{Order}
use Rattle.rows.specs.declared.records.NewOrder.{NewOrder}
use Rattle.rows.specs.declared.records.OrderLine.{OrderLine}
use Rattle.schema.specs.Database.{Database}
use Rattle.requests.specs.declared.group.Group.{Group}
use Rattle.requests.specs.declared.request.Request.{Request}
use Rattle.groups.specs.Groups.{group_of_warehouse, group_of_district, group_of_customer, group_of_order, group_of_line, group_of_history, group_of_stock, is_same}
use Rattle.groups.specs.Footprint.{footprint, groups_of}
use Rattle.groups.specs.Content.{Content, content}
use Rattle.groups.specs.Content.Content.{OfWarehouse, OfDistrict, OfCustomers, OfOrders, OfHistory, OfStock}

-- ---- the groups of a request

-- no group is twice among those of a request
abbrev pub FootprintsNameEachGroupOnce : Type 0
FootprintsNameEachGroupOnce = (request : Request) (group : Group) → count_by (is_same group) (groups_of (footprint request)) ≤ 1

-- ---- each row is in one group

-- The row of WAREHOUSE that a group has at this key, by its content. The content of a single row is without its key,
-- which the group determines.
abbrev pub warehouse_in : Group → Content → ℕ → Option Warehouse
warehouse_in group (OfWarehouse row) key = if is_same (group_of_warehouse key) group then row else None
warehouse_in group _ key = None

-- the row of DISTRICT that a group has at this key
abbrev pub district_in : Group → Content → DistrictKey → Option District
district_in group (OfDistrict row) key = if is_same (group_of_district key) group then row else None
district_in group _ key = None

-- the row of CUSTOMER that a group has at this key
abbrev pub customer_in : Group → Content → CustomerKey → Option Customer
customer_in group (OfCustomers rows) key = map.get rows key
customer_in group _ key = None

-- the row of ORDER that a group has at this key
abbrev pub order_in : Group → Content → OrderKey → Option Order
order_in group (OfOrders orders new_orders lines) key = map.get orders key
order_in group _ key = None

-- the row of NEW-ORDER that a group has at this key
abbrev pub new_order_in : Group → Content → OrderKey → Option NewOrder
new_order_in group (OfOrders orders new_orders lines) key = map.get new_orders key
new_order_in group _ key = None

-- the row of ORDER-LINE that a group has at this key
abbrev pub line_in : Group → Content → OrderLineKey → Option OrderLine
line_in group (OfOrders orders new_orders lines) key = map.get lines key
line_in group _ key = None

-- the list of payments that a group has of this district
abbrev pub history_in : Group → Content → DistrictKey → Option (List History)
history_in group (OfHistory rows) key = if is_same (group_of_history key) group then rows else None
history_in group _ key = None

-- the row of STOCK that a group has at this key
abbrev pub stock_in : Group → Content → StockKey → Option Stock
stock_in group (OfStock rows) key = map.get rows key
stock_in group _ key = None

-- At each key, the key's own group has the row that the table has there, or none if the table has none, and no other
-- group has one.
abbrev pub StandInOne : {K X : Type 0} {R : K → K → Ordering}
    → Database → map.FinMap R X → (K → Group) → (Group → Content → K → Option X) → Type 0
StandInOne {K} t table own found =
    (key : K) → (found (own key) (content t (own key)) key ≡ map.get table key)
    × ((group : Group) → group ≢ own key → found group (content t group) key ≡ None)

-- `StandInOne` for the rows of eight tables: a row's own group has it, and no other group has a row at its key
pub record RowsStandInOneGroup (t : Database) : Type 0 where
  pub warehouses : StandInOne t t.warehouses group_of_warehouse warehouse_in
  pub districts : StandInOne t t.districts group_of_district district_in
  pub customers : StandInOne t t.customers group_of_customer customer_in
  pub orders : StandInOne t t.orders group_of_order order_in
  pub new_orders : StandInOne t t.new_orders group_of_order new_order_in
  pub lines : StandInOne t t.lines group_of_line line_in
  pub histories : StandInOne t t.histories group_of_history history_in
  pub stocks : StandInOne t t.stocks group_of_stock stock_in

-- in all tables, each row is in its own group, and no other group has a row at its key
abbrev pub EachRowStandsInOneGroup : Type 0
EachRowStandsInOneGroup = (t : Database) → RowsStandInOneGroup t

-- a group's content doesn't depend on the items
abbrev pub ItemsStandInNoGroup : Type 0
ItemsStandInNoGroup =
    (t : Database) (items : map.FinMap nat_cmp Item) (group : Group) → content (record t { items = items }) group ≡ content t group

-- ---- contents make the tables

-- tables of one scale with equal items, whose groups all have the same content, are equal
abbrev pub ContentsMakeTables : Type 0
ContentsMakeTables =
    (s t : Database) → s.scale ≡ t.scale → s.items ≡ t.items → ((group : Group) → content s group ≡ content t group) → s ≡ t

-- ---- inserting a row changes one group

-- The content of a group with this row of WAREHOUSE. A group of another kind is unchanged, here and below.
abbrev pub with_warehouse : Warehouse → Content → Content
with_warehouse row (OfWarehouse _) = OfWarehouse (Some row)
with_warehouse row other = other

-- the content of a group with this row of DISTRICT
abbrev pub with_district : District → Content → Content
with_district row (OfDistrict _) = OfDistrict (Some row)
with_district row other = other

-- the content of a group with this row of CUSTOMER at the key
abbrev pub with_customer : CustomerKey → Customer → Content → Content
with_customer key row (OfCustomers rows) = OfCustomers (map.insert rows key row)
with_customer key row other = other

-- the content of a group with this row of ORDER at the key
abbrev pub with_order : OrderKey → Order → Content → Content
with_order key row (OfOrders orders new_orders lines) = OfOrders (map.insert orders key row) new_orders lines
with_order key row other = other

-- the content of a group with this row of NEW-ORDER at the key
abbrev pub with_new_order : OrderKey → NewOrder → Content → Content
with_new_order key row (OfOrders orders new_orders lines) = OfOrders orders (map.insert new_orders key row) lines
with_new_order key row other = other

-- the content of a group without a row of NEW-ORDER at the key
abbrev pub without_new_order : OrderKey → Content → Content
without_new_order key (OfOrders orders new_orders lines) = OfOrders orders (map.remove new_orders key) lines
without_new_order key other = other

-- the content of a group with this row of ORDER-LINE at the key
abbrev pub with_line : OrderLineKey → OrderLine → Content → Content
with_line key row (OfOrders orders new_orders lines) = OfOrders orders new_orders (map.insert lines key row)
with_line key row other = other

-- the content of a group with this list of payments
abbrev pub with_history : List History → Content → Content
with_history rows (OfHistory _) = OfHistory (Some rows)
with_history rows other = other

-- the content of a group with this row of STOCK at the key
abbrev pub with_stock : StockKey → Stock → Content → Content
with_stock key row (OfStock rows) = OfStock (map.insert rows key row)
with_stock key row other = other

-- the content of one group changes so, and no other group's content changes
pub record ChangesOneGroup (own : Group) (change : Content → Content) (old new : Database) : Type 0 where
  pub here : content new own ≡ change (content old own)
  pub elsewhere : (group : Group) → group ≢ own → content new group ≡ content old group

-- For each table, inserting a row changes the content of its own group only, and so does deleting a row of NEW-ORDER.
pub record PutsChangeOneGroup (t : Database) : Type 0 where
  pub warehouses : (key : ℕ) (row : Warehouse)
      → ChangesOneGroup (group_of_warehouse key) (with_warehouse row) t (record t { warehouses = map.insert t.warehouses key row })
  pub districts : (key : DistrictKey) (row : District)
      → ChangesOneGroup (group_of_district key) (with_district row) t (record t { districts = map.insert t.districts key row })
  pub customers : (key : CustomerKey) (row : Customer)
      → ChangesOneGroup (group_of_customer key) (with_customer key row) t (record t { customers = map.insert t.customers key row })
  pub orders : (key : OrderKey) (row : Order)
      → ChangesOneGroup (group_of_order key) (with_order key row) t (record t { orders = map.insert t.orders key row })
  pub new_orders : (key : OrderKey) (row : NewOrder)
      → ChangesOneGroup (group_of_order key) (with_new_order key row) t (record t { new_orders = map.insert t.new_orders key row })
  pub new_orders_removed : (key : OrderKey)
      → ChangesOneGroup (group_of_order key) (without_new_order key) t (record t { new_orders = map.remove t.new_orders key })
  pub lines : (key : OrderLineKey) (row : OrderLine)
      → ChangesOneGroup (group_of_line key) (with_line key row) t (record t { lines = map.insert t.lines key row })
  pub histories : (key : DistrictKey) (rows : List History)
      → ChangesOneGroup (group_of_history key) (with_history rows) t (record t { histories = map.insert t.histories key rows })
  pub stocks : (key : StockKey) (row : Stock)
      → ChangesOneGroup (group_of_stock key) (with_stock key row) t (record t { stocks = map.insert t.stocks key row })

-- in all tables, inserting a row or deleting one of NEW-ORDER changes the content of its own group only
abbrev pub EachPutChangesOneGroup : Type 0
EachPutChangesOneGroup = (t : Database) → PutsChangeOneGroup t
