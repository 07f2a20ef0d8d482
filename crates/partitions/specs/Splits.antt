-- The rows of all warehouses, split by warehouse.
use Rattle.std.specs.Prelude.{◌≡◌, ℕ, ◌+◌, ◌-◌, ◌*◌, ◌<◌, ◌≤◌, List, length, take, drop, slice_index_or}
use Rattle.std.specs.List.{All, filter}
use Rattle.rows.specs.declared.keys.OrderKey.{OrderKey}
use Rattle.rows.specs.declared.keys.OrderLineKey.{OrderLineKey}
use Rattle.rows.specs.declared.records.Warehouse.{Warehouse}
use Rattle.schema.specs.declared.scale.Scale.{Scale}
use Rattle.schema.specs.declared.table_rows.TableRows.{TableRows}
use Rattle.partitions.specs.declared.home_rows.HomeRows.{HomeRows}
use Rattle.partitions.specs.declared.homes.Homes.{Homes}
use Rattle.partitions.specs.Parts.{is_of}

-- the rows at a place, if each place has `each` rows
abbrev pub chunk : {X : Type 0} → ℕ → ℕ → List X → List X
chunk each place rows = take each (drop (place * each) rows)

-- the entries whose keys are of the warehouse at a place, from 0
abbrev pub entries_at : {K X : Type 0} → (K → ℕ) → ℕ → List (K × X) → List (K × X)
entries_at own place entries = filter (λ e. is_of (place + 1) (own e.0)) entries

-- the warehouse of each of these keys is from 1 to `many`
abbrev pub AreOfWarehouses : {K X : Type 0} → (K → ℕ) → ℕ → List (K × X) → Type 0
AreOfWarehouses own many entries = All (λ e. (1 ≤ own e.0) × (own e.0 ≤ many)) entries

-- The parts at the places from `first` on, of `many`, the last first: each is the part for its place.
pub record AreLastFirst {P : Type 0} (StandsAt : ℕ → P → Type 0) (first many : ℕ) (parts : List P) : Type 0 where
  pub count : length parts + first ≡ many
  pub each : (place : ℕ) (d : P) → first ≤ place → place < many → StandsAt place (slice_index_or parts (many - 1 - place) d)

-- ---- the rows of all tables

-- each key of ORDER, NEW-ORDER and ORDER-LINE belongs to a warehouse of the scale
pub record AreRowsOfWarehouses (scale : Scale) (rows : TableRows) : Type 0 where
  pub orders : AreOfWarehouses (λ (key : OrderKey). key.w_id) scale.warehouses rows.orders.entries
  pub new_orders : AreOfWarehouses (λ (key : OrderKey). key.w_id) scale.warehouses rows.new_orders.entries
  pub lines : AreOfWarehouses (λ (key : OrderLineKey). key.w_id) scale.warehouses rows.lines

-- the rows of each table that belong to the warehouses from a place on, the last warehouse's first
pub record AreHomesFrom (scale : Scale) (rows : TableRows) (first : ℕ) (homes : Homes) : Type 0 where
  pub warehouses : AreLastFirst (λ place (row : Warehouse). (d : Warehouse) → slice_index_or rows.warehouses.items place d ≡ row) first scale.warehouses homes.warehouses.items
  pub districts : AreLastFirst (λ place part. part.items ≡ chunk 10 place rows.districts.items) first scale.warehouses homes.districts.items
  pub stocks : AreLastFirst (λ place part. part.items ≡ chunk scale.items place rows.stocks.items) first scale.warehouses homes.stocks.items
  pub customers : AreLastFirst (λ place part. part.items ≡ chunk (10 * scale.customers) place rows.customers.items) first scale.warehouses homes.customers.items
  pub histories : AreLastFirst (λ place part. part.items ≡ chunk 10 place rows.histories.items) first scale.warehouses homes.histories.items
  pub orders : AreLastFirst (λ place part. part.entries ≡ entries_at (λ (key : OrderKey). key.w_id) place rows.orders.entries) first scale.warehouses homes.orders.items
  pub new_orders : AreLastFirst (λ place part. part.entries ≡ entries_at (λ (key : OrderKey). key.w_id) place rows.new_orders.entries) first scale.warehouses homes.new_orders.items
  pub lines : AreLastFirst (λ place part. part ≡ entries_at (λ (key : OrderLineKey). key.w_id) place rows.lines) first scale.warehouses homes.lines.items

-- the rows of the warehouse at a place
pub record IsHomeAt (scale : Scale) (rows : TableRows) (place : ℕ) (home : HomeRows) : Type 0 where
  pub warehouse : (d : Warehouse) → slice_index_or rows.warehouses.items place d ≡ home.warehouse
  pub districts : home.districts.items ≡ chunk 10 place rows.districts.items
  pub stocks : home.stocks.items ≡ chunk scale.items place rows.stocks.items
  pub customers : home.customers.items ≡ chunk (10 * scale.customers) place rows.customers.items
  pub histories : home.histories.items ≡ chunk 10 place rows.histories.items
  pub orders : home.orders.entries ≡ entries_at (λ (key : OrderKey). key.w_id) place rows.orders.entries
  pub new_orders : home.new_orders ≡ entries_at (λ (key : OrderKey). key.w_id) place rows.new_orders.entries
  pub lines : home.lines ≡ entries_at (λ (key : OrderLineKey). key.w_id) place rows.lines

-- The rows are those of the first warehouse that was left, and the others are left now, whatever tables they are of.
abbrev pub TakesFirstHome : Homes → HomeRows → Homes → Type 0
TakesFirstHome old home new =
    (scale : Scale) (rows : TableRows) (place : ℕ) → AreHomesFrom scale rows place old
    → IsHomeAt scale rows place home × AreHomesFrom scale rows (place + 1) new

-- at least one warehouse is left
pub record HasHome (homes : Homes) : Type 0 where
  pub warehouses : 0 < length homes.warehouses.items
  pub districts : 0 < length homes.districts.items
  pub stocks : 0 < length homes.stocks.items
  pub customers : 0 < length homes.customers.items
  pub histories : 0 < length homes.histories.items
  pub orders : 0 < length homes.orders.items
  pub new_orders : 0 < length homes.new_orders.items
  pub lines : 0 < length homes.lines.items
