-- The changes of a warehouse's rows that a transaction makes, and those that undo them.
use Rattle.std.specs.Prelude.{◌≡◌, ℕ, ◌+◌, ◌<◌, List, IsTrue}
use Rattle.std.specs.FinMap as map
use Rattle.rows.specs.declared.keys.DistrictKey.{DistrictKey}
use Rattle.rows.specs.declared.keys.StockKey.{StockKey}
use Rattle.rows.specs.declared.keys.CustomerKey.{CustomerKey}
use Rattle.rows.specs.declared.keys.OrderKey.{OrderKey}
use Rattle.rows.specs.declared.records.Warehouse.{Warehouse}
use Rattle.rows.specs.declared.records.District.{District}
use Rattle.rows.specs.declared.records.Stock.{Stock}
use Rattle.rows.specs.declared.records.Customer.{Customer}
use Rattle.rows.specs.declared.records.History.{History}
use Rattle.rows.specs.declared.records.Order.{Order}
use Rattle.rows.specs.declared.records.OrderLine.{OrderLine}
use Rattle.schema.specs.declared.order_rows.Replaced.{Replaced}
use Rattle.schema.specs.Database.{Database, with_payment, without_payment}
use Rattle.schema.specs.OrderRows.{LineTable, line_key, with_order, without_order, with_delivery}
use Rattle.partitions.specs.declared.delivery_rows.BeforeDelivery.{BeforeDelivery}
use Rattle.partitions.specs.Deliveries.{without_delivery}
use Rattle.partitions.specs.Parts.{Part}

-- ---- the tables with one row changed

-- the tables with this row of WAREHOUSE
abbrev pub with_warehouse_row : Database → ℕ → Warehouse → Database
with_warehouse_row t w_id row = record t { warehouses = map.insert t.warehouses w_id row }

-- the tables with this row of DISTRICT
abbrev pub with_district_row : Database → DistrictKey → District → Database
with_district_row t key row = record t { districts = map.insert t.districts key row }

-- the tables with this row of STOCK
abbrev pub with_stock_row : Database → StockKey → Stock → Database
with_stock_row t key row = record t { stocks = map.insert t.stocks key row }

-- the tables with this row of CUSTOMER
abbrev pub with_customer_row : Database → CustomerKey → Customer → Database
with_customer_row t key row = record t { customers = map.insert t.customers key row }

-- the tables with one more payment at the end of the district's list
abbrev pub with_history_row : Database → DistrictKey → History → Database
with_history_row t key row = record t { histories = with_payment t.histories key row }

-- the tables without the last payment of the district's list
abbrev pub without_history_row : Database → DistrictKey → Database
without_history_row t key = record t { histories = without_payment t.histories key }

-- ---- a change of a warehouse's rows

-- The warehouse has this row of WAREHOUSE now, and nothing else changed.
abbrev pub PutsWarehouse : ℕ → Warehouse → Part → Part → Type 0
PutsWarehouse w_id row old new = new ≡ record old { tables = with_warehouse_row old.tables w_id row }

-- The warehouse has this row of DISTRICT now, and nothing else changed.
abbrev pub PutsDistrict : DistrictKey → District → Part → Part → Type 0
PutsDistrict key row old new = new ≡ record old { tables = with_district_row old.tables key row }

-- The warehouse has this row of STOCK now, and nothing else changed.
abbrev pub PutsStock : StockKey → Stock → Part → Part → Type 0
PutsStock key row old new = new ≡ record old { tables = with_stock_row old.tables key row }

-- The warehouse has this row of CUSTOMER now, and nothing else changed.
abbrev pub PutsCustomer : CustomerKey → Customer → Part → Part → Type 0
PutsCustomer key row old new = new ≡ record old { tables = with_customer_row old.tables key row }

-- The district's list has this payment at its end now, and nothing else changed.
abbrev pub AddsPayment : DistrictKey → History → Part → Part → Type 0
AddsPayment key row old new = new ≡ record old { tables = with_history_row old.tables key row }

-- The district's list has lost its last payment, and nothing else changed.
abbrev pub RemovesPayment : DistrictKey → Part → Part → Type 0
RemovesPayment key old new = new ≡ record old { tables = without_history_row old.tables key }

-- The warehouse has this new order now, with its row of NEW-ORDER and its lines, and nothing else changed.
abbrev pub AddsOrder : OrderKey → Order → List OrderLine → Part → Part → Type 0
AddsOrder key order lines old new = new ≡ record old { tables = with_order old.tables key order lines }

-- The order has lines of the numbers 1 to `count`.
abbrev pub HasLines : LineTable → OrderKey → ℕ → Type 0
HasLines lines key count = (n : ℕ) → n < count → IsTrue (map.contains_key lines (line_key key (1 + n)))

-- the warehouse's rows with those that the order replaced restored
abbrev pub part_without_order : Part → OrderKey → Replaced → Part
part_without_order p key replaced = record p { tables = without_order p.tables key replaced }

-- The order is delivered now, and nothing else changed.
abbrev pub DeliversOrder : OrderKey → ℕ → ℕ → Part → Part → Type 0
DeliversOrder key carrier moment old new = new ≡ record old { tables = with_delivery old.tables key carrier moment }

-- What the delivery of the order replaced is restored now, and nothing else changed.
abbrev pub TakesBackDelivery : OrderKey → BeforeDelivery → Part → Part → Type 0
TakesBackDelivery key before old new = new ≡ record old { tables = without_delivery old.tables key before }
