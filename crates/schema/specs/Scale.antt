-- The keys of a scale, their order, and the slot of each key (clause 1.2.1: the cardinalities).
use Rattle.std.specs.Prelude.{ℕ, ◌+◌, ◌-◌, ◌*◌, Bool, ◌&&◌, List, Option, Some, None, if◌then◌else◌}
use Rattle.std.specs.List.{range_with_len}
use Rattle.rows.specs.declared.keys.DistrictKey.{DistrictKey}
use Rattle.rows.specs.declared.keys.StockKey.{StockKey}
use Rattle.rows.specs.declared.keys.CustomerKey.{CustomerKey}
use Rattle.rows.specs.Keys.{district_of_customer}
use Rattle.rows.specs.Ranged.{is_between}
use Rattle.schema.specs.declared.scale.Scale.{Scale}
use Rattle.schema.specs.Dense.{grid}

-- items are numbered from 1
abbrev pub has_item : Scale → ℕ → Bool
has_item scale item = is_between 1 scale.items item

-- warehouses are numbered from 1
abbrev pub has_warehouse : Scale → ℕ → Bool
has_warehouse scale warehouse = is_between 1 scale.warehouses warehouse

-- each warehouse has ten districts
abbrev pub has_district : Scale → DistrictKey → Bool
has_district scale key = has_warehouse scale key.w_id && is_between 1 10 key.d_id

-- each warehouse has a stock row for each item
abbrev pub has_stock : Scale → StockKey → Bool
has_stock scale key = has_warehouse scale key.w_id && has_item scale key.i_id

-- each district has the same number of customers
abbrev pub has_customer : Scale → CustomerKey → Bool
has_customer scale key = has_district scale (district_of_customer key) && is_between 1 scale.customers key.c_id

-- ---- these keys in ascending order

-- the numbers of the scale's items, ascending
abbrev pub item_ids : Scale → List ℕ
item_ids scale = range_with_len 1 scale.items

-- the numbers of the scale's warehouses, ascending
abbrev pub warehouse_ids : Scale → List ℕ
warehouse_ids scale = range_with_len 1 scale.warehouses

-- the key of a district of the warehouse
abbrev pub district_key : ℕ → ℕ → DistrictKey
district_key warehouse district = record { w_id = warehouse; d_id = district }

-- the keys of all districts of the scale, ascending
abbrev pub district_keys : Scale → List DistrictKey
district_keys scale = grid district_key 10 (warehouse_ids scale)

-- the key of a warehouse's stock row for an item
abbrev pub stock_key : ℕ → ℕ → StockKey
stock_key warehouse item = record { w_id = warehouse; i_id = item }

-- the keys of all stock rows of the scale, ascending
abbrev pub stock_keys : Scale → List StockKey
stock_keys scale = grid stock_key scale.items (warehouse_ids scale)

-- the key of a customer of the district
abbrev pub customer_key : DistrictKey → ℕ → CustomerKey
customer_key home customer = record { w_id = home.w_id; d_id = home.d_id; c_id = customer }

-- the keys of all customers of the scale, ascending
abbrev pub customer_keys : Scale → List CustomerKey
customer_keys scale = grid customer_key scale.customers (district_keys scale)

-- ---- the slot of each key: its index among these keys, from 0

-- the slot of an item
abbrev pub item_slot : Scale → ℕ → Option ℕ
item_slot scale item = if has_item scale item then Some (item - 1) else None

-- the slot of a warehouse
abbrev pub warehouse_slot : Scale → ℕ → Option ℕ
warehouse_slot scale warehouse = if has_warehouse scale warehouse then Some (warehouse - 1) else None

-- the slot of a district; each warehouse has ten
abbrev pub district_slot : Scale → DistrictKey → Option ℕ
district_slot scale key = if has_district scale key then Some ((key.w_id - 1) * 10 + (key.d_id - 1)) else None

-- the slot of a warehouse's stock row for an item
abbrev pub stock_slot : Scale → StockKey → Option ℕ
stock_slot scale key = if has_stock scale key then Some ((key.w_id - 1) * scale.items + (key.i_id - 1)) else None

-- the slot of a customer
abbrev pub customer_slot : Scale → CustomerKey → Option ℕ
customer_slot scale key =
    if has_customer scale key then Some (((key.w_id - 1) * 10 + (key.d_id - 1)) * scale.customers + (key.c_id - 1)) else None
