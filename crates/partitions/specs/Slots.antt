-- The places of the rows of districts, stock and customers, among those that are here.
use Rattle.std.specs.Prelude.{◌≡◌, ℕ, ◌+◌, ◌-◌, ◌*◌, ◌<◌, ◌≤◌, List, slice_get, Option, Some, None, is_some, if◌then◌else◌}
use Rattle.std.specs.Option.{option_map}
use Rattle.std.specs.FinMap as map
use Rattle.rows.specs.Keys.{district_of_customer}
use Rattle.rows.specs.Ranged.{is_between}
use Rattle.rows.specs.declared.keys.DistrictKey.{DistrictKey}
use Rattle.rows.specs.declared.keys.StockKey.{StockKey}
use Rattle.rows.specs.declared.keys.CustomerKey.{CustomerKey}
use Rattle.rows.specs.declared.limits.TheConstants.{MOST_WAREHOUSES}
use Rattle.rows.specs.declared.records.Customer.{Customer}
use Rattle.schema.specs.declared.scale.Scale.{Scale}
use Rattle.schema.specs.Scale.{customer_key}
use Rattle.schema.specs.Database.{Database, customer_of_order, OrdersNumbered}
use Rattle.schema.specs.EachRow.{EachRow}
use Rattle.partitions.specs.Parts.{has_district_of, has_stock_of}

-- the place of a district among those whose rows are here, in the order of their keys
abbrev pub Slots : Type 0
Slots = DistrictKey → Option ℕ

-- the place of a customer, if each of these districts has this number of customers
abbrev pub customer_slot_by : Slots → ℕ → CustomerKey → Option ℕ
customer_slot_by slot customers key =
    if is_between 1 customers key.c_id then option_map (λ place. place * customers + (key.c_id - 1)) (slot (district_of_customer key)) else None

-- These are the district's customers, by C_ID from 1.
abbrev pub AreCustomersOf : Database → DistrictKey → List Customer → Type 0
AreCustomersOf t home rows = (c : ℕ) → slice_get rows c ≡ map.get t.customers (customer_key home (c + 1))

-- no two districts have the same place
abbrev pub AreApart : Slots → Type 0
AreApart slot = (one other : DistrictKey) (place : ℕ) → slot one ≡ Some place → slot other ≡ Some place → one ≡ other

-- Each place is below the number of districts, and no two districts share one. The customers that are here are
-- exactly those of the districts that have a place, each order's customer is one of them, and each order's number is
-- one that orders can have.
pub record AreRows (slot : Slots) (districts : ℕ) (t : Database) : Type 0 where
  pub few : districts ≤ 10 * MOST_WAREHOUSES
  pub within : (home : DistrictKey) (place : ℕ) → slot home ≡ Some place → place < districts
  pub apart : AreApart slot
  pub customers : (key : CustomerKey) → map.contains_key t.customers key ≡ is_some (customer_slot_by slot t.scale.customers key)
  pub orders : EachRow (λ key row. is_some (customer_slot_by slot t.scale.customers (customer_of_order key row))) t.orders
  pub numbered : OrdersNumbered t

-- the places of the ten districts of one warehouse
abbrev pub home_slot : ℕ → Slots
home_slot home key = if has_district_of home key then Some (key.d_id - 1) else None

-- the place of the warehouse's stock of an item of the scale
abbrev pub home_stock_slot : Scale → ℕ → StockKey → Option ℕ
home_stock_slot scale home key = if has_stock_of scale home key then Some (key.i_id - 1) else None
