-- The part of the tables that a partition's rows make.
use Rattle.std.specs.Prelude.{[], ◌∷◌, ◌≡◌, ℕ, ◌*◌, List, length}
use Rattle.std.specs.List.{zip}
use Rattle.std.specs.FinMap as map
use Rattle.rows.specs.declared.keys.DistrictKey.{DistrictKey}
use Rattle.rows.specs.declared.keys.StockKey.{StockKey}
use Rattle.rows.specs.declared.keys.CustomerKey.{CustomerKey}
use Rattle.schema.specs.declared.scale.Scale.{Scale}
use Rattle.schema.specs.Dense.{grid}
use Rattle.schema.specs.Scale.{district_key, stock_key, customer_key}
use Rattle.partitions.specs.declared.home_rows.HomeRows.{HomeRows}
use Rattle.partitions.specs.Parts.{SharedTables, Part, IsPart}

-- ---- a warehouse's keys in order

-- the keys of the warehouse's districts, ascending
abbrev pub district_keys_of : ℕ → List DistrictKey
district_keys_of home = grid district_key 10 (home ∷ [])

-- the keys of the warehouse's stock, ascending
abbrev pub stock_keys_of : Scale → ℕ → List StockKey
stock_keys_of scale home = grid stock_key scale.items (home ∷ [])

-- the keys of the warehouse's customers, ascending
abbrev pub customer_keys_of : Scale → ℕ → List CustomerKey
customer_keys_of scale home = grid customer_key scale.customers (district_keys_of home)

-- ---- the part

-- The part that these rows make. The rows of districts, stock, customers and payments belong to the warehouse's keys
-- in order.
abbrev pub part : SharedTables → ℕ → HomeRows → Part
part shared home rows = record {
  home = home;
  tables = record {
    scale = shared.scale;
    items = shared.items;
    warehouses = map.from_entries ((home, rows.warehouse) ∷ []);
    districts = map.from_entries (zip (district_keys_of home) rows.districts.items);
    stocks = map.from_entries (zip (stock_keys_of shared.scale home) rows.stocks.items);
    customers = map.from_entries (zip (customer_keys_of shared.scale home) rows.customers.items);
    histories = map.from_entries (zip (district_keys_of home) rows.histories.items);
    orders = map.from_entries rows.orders.entries;
    new_orders = map.from_entries rows.new_orders;
    lines = map.from_entries rows.lines;
  };
}

-- each table stored without keys has exactly as many rows as the warehouse has keys
pub record HasCountsOf (scale : Scale) (rows : HomeRows) : Type 0 where
  pub districts : length rows.districts.items ≡ 10
  pub stocks : length rows.stocks.items ≡ scale.items
  pub customers : length rows.customers.items ≡ 10 * scale.customers
  pub histories : length rows.histories.items ≡ 10

-- the rows make a part
pub record FitsPart (shared : SharedTables) (home : ℕ) (rows : HomeRows) : Type 0 where
  pub counts : HasCountsOf shared.scale rows
  pub is_part : IsPart (part shared home rows)

-- the same rows in each table
pub record AreSameHomeRows (old new : HomeRows) : Type 0 where
  pub warehouse : new.warehouse ≡ old.warehouse
  pub districts : new.districts.items ≡ old.districts.items
  pub stocks : new.stocks.items ≡ old.stocks.items
  pub customers : new.customers.items ≡ old.customers.items
  pub histories : new.histories.items ≡ old.histories.items
  pub orders : new.orders.entries ≡ old.orders.entries
  pub new_orders : new.new_orders ≡ old.new_orders
  pub lines : new.lines ≡ old.lines
