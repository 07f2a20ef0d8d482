-- Tables cut by warehouse, and joined again.
use Rattle.std.specs.Prelude.{◌≡◌, ℕ, ◌+◌, ◌<◌, Bool, ◌&&◌, ◌==◌, List, length, map, slice_index_or, IsTrue}
use Rattle.std.specs.List.{flat_map}
use Rattle.std.specs.declared.cmp.Ordering.{Ordering}
use Rattle.std.specs.Ordering.{nat_cmp}
use Rattle.std.specs.FinMap as table
use Rattle.rows.specs.Keys.{district_of_customer}
use Rattle.rows.specs.Ranged.{is_between}
use Rattle.rows.specs.declared.keys.DistrictKey.{DistrictKey}
use Rattle.rows.specs.declared.keys.StockKey.{StockKey}
use Rattle.rows.specs.declared.keys.CustomerKey.{CustomerKey}
use Rattle.rows.specs.declared.keys.OrderKey.{OrderKey}
use Rattle.rows.specs.declared.keys.OrderLineKey.{OrderLineKey}
use Rattle.rows.specs.declared.records.Item.{Item}
use Rattle.schema.specs.declared.scale.Scale.{Scale}
use Rattle.schema.specs.EachRow.{EachRow}
use Rattle.schema.specs.Scale.{has_item, has_warehouse, warehouse_ids}
use Rattle.schema.specs.Database.{Database, PayersKnown, OrdersNumbered, OrdersHaveCustomers, NewOrdersHaveOrders, LinesHaveOrders, LinesNumbered, LinesHaveItems, LinesHaveSuppliers}

-- what all parts share: the scale of the tables, and ITEM
pub record SharedTables : Type 0 where
  pub scale : Scale
  pub items : table.FinMap nat_cmp Item

-- what all parts of these tables share
abbrev pub shared_of : Database → SharedTables
shared_of t = record { scale = t.scale; items = t.items }

-- the rows of one warehouse, as tables without the rows of others, and what all parts share
pub record Part : Type 0 where
  pub home : ℕ
  pub tables : Database

-- ---- one part

-- the warehouse is `home`
abbrev pub is_of : ℕ → ℕ → Bool
is_of home warehouse = warehouse == home

-- the key belongs to one of the warehouse's ten districts
abbrev pub has_district_of : ℕ → DistrictKey → Bool
has_district_of home key = is_of home key.w_id && is_between 1 10 key.d_id

-- the key belongs to the warehouse's stock of an item of the scale
abbrev pub has_stock_of : Scale → ℕ → StockKey → Bool
has_stock_of scale home key = is_of home key.w_id && has_item scale key.i_id

-- the key belongs to a customer of one of the warehouse's districts
abbrev pub has_customer_of : Scale → ℕ → CustomerKey → Bool
has_customer_of scale home key = has_district_of home (district_of_customer key) && is_between 1 scale.customers key.c_id

-- The warehouse is one of the scale. WAREHOUSE, DISTRICT, STOCK, CUSTOMER and HISTORY have exactly the scale's keys
-- of this warehouse, and ITEM has all of the scale's keys. Orders, new orders and lines are all of this warehouse.
-- Rows refer to others as the scale's rules require.
pub record IsPart (p : Part) : Type 0 where
  pub home : IsTrue (has_warehouse p.tables.scale p.home)
  pub items : (key : ℕ) → table.contains_key p.tables.items key ≡ has_item p.tables.scale key
  pub warehouses : (key : ℕ) → table.contains_key p.tables.warehouses key ≡ is_of p.home key
  pub districts : (key : DistrictKey) → table.contains_key p.tables.districts key ≡ has_district_of p.home key
  pub stocks : (key : StockKey) → table.contains_key p.tables.stocks key ≡ has_stock_of p.tables.scale p.home key
  pub customers : (key : CustomerKey) → table.contains_key p.tables.customers key ≡ has_customer_of p.tables.scale p.home key
  pub histories : (key : DistrictKey) → table.contains_key p.tables.histories key ≡ has_district_of p.home key
  pub orders_here : EachRow (λ (key : OrderKey) _. is_of p.home key.w_id) p.tables.orders
  pub new_orders_here : EachRow (λ (key : OrderKey) _. is_of p.home key.w_id) p.tables.new_orders
  pub lines_here : EachRow (λ (key : OrderLineKey) _. is_of p.home key.w_id) p.tables.lines
  pub payers_known : PayersKnown p.tables
  pub orders_numbered : OrdersNumbered p.tables
  pub orders_have_customers : OrdersHaveCustomers p.tables
  pub new_orders_have_orders : NewOrdersHaveOrders p.tables
  pub lines_have_orders : LinesHaveOrders p.tables
  pub lines_numbered : LinesNumbered p.tables
  pub lines_have_items : LinesHaveItems p.tables
  pub lines_have_suppliers : LinesHaveSuppliers p.tables

-- ---- the parts of tables

-- the part of the tables that belongs to one warehouse
abbrev pub part_of : Database → ℕ → Part
part_of t home = record {
  home = home;
  tables = record {
    scale = t.scale;
    items = t.items;
    warehouses = table.retain_keys t.warehouses (is_of home);
    districts = table.retain_keys t.districts (λ key. is_of home key.w_id);
    stocks = table.retain_keys t.stocks (λ key. is_of home key.w_id);
    customers = table.retain_keys t.customers (λ key. is_of home key.w_id);
    histories = table.retain_keys t.histories (λ key. is_of home key.w_id);
    orders = table.retain_keys t.orders (λ key. is_of home key.w_id);
    new_orders = table.retain_keys t.new_orders (λ key. is_of home key.w_id);
    lines = table.retain_keys t.lines (λ key. is_of home key.w_id);
  };
}

-- the parts of all warehouses, in order
abbrev pub parts_of : Database → List Part
parts_of t = map (part_of t) (warehouse_ids t.scale)

-- ---- joined again

-- the rows of one table in all parts, each of its part's own warehouse
abbrev pub rows_of_all : {K X : Type 0} {R : K → K → Ordering} → (K → ℕ) → (Database → table.FinMap R X) → List Part → table.FinMap R X
rows_of_all own rows parts = table.from_entries (flat_map (λ p. table.entries (table.retain_keys (rows p.tables) (λ key. is_of p.home (own key)))) parts)

-- the tables of all parts' rows, and of what the parts share
abbrev pub whole_of : SharedTables → List Part → Database
whole_of shared parts = record {
  scale = shared.scale;
  items = shared.items;
  warehouses = rows_of_all (λ key. key) (λ t. t.warehouses) parts;
  districts = rows_of_all (λ key. key.w_id) (λ t. t.districts) parts;
  stocks = rows_of_all (λ key. key.w_id) (λ t. t.stocks) parts;
  customers = rows_of_all (λ key. key.w_id) (λ t. t.customers) parts;
  histories = rows_of_all (λ key. key.w_id) (λ t. t.histories) parts;
  orders = rows_of_all (λ key. key.w_id) (λ t. t.orders) parts;
  new_orders = rows_of_all (λ key. key.w_id) (λ t. t.new_orders) parts;
  lines = rows_of_all (λ key. key.w_id) (λ t. t.lines) parts;
}

-- a part of the warehouse at this place, counted from 0, with this scale and these items
pub record IsPartAt (shared : SharedTables) (place : ℕ) (p : Part) : Type 0 where
  pub home : p.home ≡ place + 1
  pub scale : p.tables.scale ≡ shared.scale
  pub items : p.tables.items ≡ shared.items

-- the parts of all warehouses of the scale, in order
pub record ArePartsOf (shared : SharedTables) (parts : List Part) : Type 0 where
  pub many : length parts ≡ shared.scale.warehouses
  pub each : (place : ℕ) (d : Part) → place < length parts → IsPartAt shared place (slice_index_or parts place d)
