-- The tables that rows form, and the rules of the scale that rows break.
use Rattle.std.specs.Prelude.{[], ◌≡◌, ◌≢◌, ◌*◌, length}
use Rattle.std.specs.List.{zip}
use Rattle.std.specs.FinMap as map
use Rattle.schema.specs.declared.scale.Scale.{Scale}
use Rattle.schema.specs.declared.table_rows.TableRows.{TableRows}
use Rattle.schema.specs.declared.scale_fault.ScaleFault.{ScaleFault}
use Rattle.schema.specs.declared.scale_fault.ScaleFault.TheVariants.{ItemCount, WarehouseCount, DistrictCount, StockCount, CustomerCount, HistoryCount, HistoryCustomer, OrderNumber, OrderCustomer, NewOrderOrder, LineOrder, LineNumber, LineItem, LineSupplier}
use Rattle.schema.specs.Scale.{item_ids, warehouse_ids, district_keys, stock_keys, customer_keys}
use Rattle.schema.specs.Database.{Database, IsWithinScale, PayersKnown, OrdersNumbered, OrdersHaveCustomers, NewOrdersHaveOrders, LinesHaveOrders, LinesNumbered, LinesHaveItems, LinesHaveSuppliers}

-- the tables that these rows form; in six tables, the rows are paired with the scale's keys in order
abbrev pub database : Scale → TableRows → Database
database scale rows = record {
  scale = scale;
  items = map.from_entries (zip (item_ids scale) rows.items.items);
  warehouses = map.from_entries (zip (warehouse_ids scale) rows.warehouses.items);
  districts = map.from_entries (zip (district_keys scale) rows.districts.items);
  stocks = map.from_entries (zip (stock_keys scale) rows.stocks.items);
  customers = map.from_entries (zip (customer_keys scale) rows.customers.items);
  histories = map.from_entries (zip (district_keys scale) rows.histories.items);
  orders = map.from_entries rows.orders.entries;
  new_orders = map.from_entries rows.new_orders.entries;
  lines = map.from_entries rows.lines;
}

-- each of the six tables has exactly as many rows as the scale has keys for it
pub record HasCounts (scale : Scale) (rows : TableRows) : Type 0 where
  pub items : length rows.items.items ≡ scale.items
  pub warehouses : length rows.warehouses.items ≡ scale.warehouses
  pub districts : length rows.districts.items ≡ scale.warehouses * 10
  pub stocks : length rows.stocks.items ≡ scale.warehouses * scale.items
  pub customers : length rows.customers.items ≡ scale.warehouses * 10 * scale.customers
  pub histories : length rows.histories.items ≡ scale.warehouses * 10

-- the rows form tables within the scale
pub record FitsScale (scale : Scale) (rows : TableRows) : Type 0 where
  pub counts : HasCounts scale rows
  pub within : IsWithinScale (database scale rows)

-- all tables are empty
pub record AreNoRows (rows : TableRows) : Type 0 where
  pub items : rows.items.items ≡ []
  pub warehouses : rows.warehouses.items ≡ []
  pub districts : rows.districts.items ≡ []
  pub stocks : rows.stocks.items ≡ []
  pub customers : rows.customers.items ≡ []
  pub histories : rows.histories.items ≡ []
  pub orders : rows.orders.entries ≡ []
  pub new_orders : rows.new_orders.entries ≡ []
  pub lines : rows.lines ≡ []

-- the same rows in each table
pub record AreSameRows (old new : TableRows) : Type 0 where
  pub items : new.items.items ≡ old.items.items
  pub warehouses : new.warehouses.items ≡ old.warehouses.items
  pub districts : new.districts.items ≡ old.districts.items
  pub stocks : new.stocks.items ≡ old.stocks.items
  pub customers : new.customers.items ≡ old.customers.items
  pub histories : new.histories.items ≡ old.histories.items
  pub orders : new.orders.entries ≡ old.orders.entries
  pub new_orders : new.new_orders.entries ≡ old.new_orders.entries
  pub lines : new.lines ≡ old.lines

-- the rows break the rule that the fault stands for
abbrev pub Breaks : ScaleFault → Scale → TableRows → Type 0
Breaks ItemCount scale rows = length rows.items.items ≢ scale.items
Breaks WarehouseCount scale rows = length rows.warehouses.items ≢ scale.warehouses
Breaks DistrictCount scale rows = length rows.districts.items ≢ scale.warehouses * 10
Breaks StockCount scale rows = length rows.stocks.items ≢ scale.warehouses * scale.items
Breaks CustomerCount scale rows = length rows.customers.items ≢ scale.warehouses * 10 * scale.customers
Breaks HistoryCount scale rows = length rows.histories.items ≢ scale.warehouses * 10
Breaks HistoryCustomer scale rows = ¬ PayersKnown (database scale rows)
Breaks OrderNumber scale rows = ¬ OrdersNumbered (database scale rows)
Breaks OrderCustomer scale rows = ¬ OrdersHaveCustomers (database scale rows)
Breaks NewOrderOrder scale rows = ¬ NewOrdersHaveOrders (database scale rows)
Breaks LineOrder scale rows = ¬ LinesHaveOrders (database scale rows)
Breaks LineNumber scale rows = ¬ LinesNumbered (database scale rows)
Breaks LineItem scale rows = ¬ LinesHaveItems (database scale rows)
Breaks LineSupplier scale rows = ¬ LinesHaveSuppliers (database scale rows)
