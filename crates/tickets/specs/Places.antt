-- The groups of a number of warehouses, and the places of the log's seats.
use Rattle.std.specs.Prelude.{◌≡◌, ℕ, ◌+◌, ◌-◌, ◌*◌, ◌<◌, ◌≤◌, List, length, slice_index_or}
use Rattle.rows.specs.declared.limits.TheConstants.{STOCK_GROUPS}
use Rattle.requests.specs.declared.group.Group.{Group}
use Rattle.requests.specs.declared.group.Group.TheVariants.{Warehouse, District, Customers, Orders, History, Stock}
use Rattle.groups.specs.Groups.{warehouse_of}
use Rattle.tickets.specs.LogSeats.{CommittedGroup}

-- from `low` to `high`, both included
abbrev pub IsBetween : ℕ → ℕ → ℕ → Type 0
IsBetween low high number = (low ≤ number) × (number ≤ high)

-- The group belongs to one of this number of warehouses. A warehouse has ten districts, and its stock has STOCK_GROUPS parts.
abbrev pub IsGroupOf : ℕ → Group → Type 0
IsGroupOf warehouses (Warehouse w_id) = IsBetween 1 warehouses w_id
IsGroupOf warehouses (District w_id d_id) = IsBetween 1 warehouses w_id × IsBetween 1 10 d_id
IsGroupOf warehouses (Customers w_id d_id) = IsBetween 1 warehouses w_id × IsBetween 1 10 d_id
IsGroupOf warehouses (Orders w_id d_id) = IsBetween 1 warehouses w_id × IsBetween 1 10 d_id
IsGroupOf warehouses (History w_id d_id) = IsBetween 1 warehouses w_id × IsBetween 1 10 d_id
IsGroupOf warehouses (Stock w_id residue) = IsBetween 1 warehouses w_id × (residue < STOCK_GROUPS)

-- the place of a group among the 105 of its warehouse: the warehouse's row, the ten districts' rows, the customers of
-- each district, the orders of each, the payments of each, and the parts of the stock
abbrev pub place_in_warehouse : Group → ℕ
place_in_warehouse (Warehouse w_id) = 0
place_in_warehouse (District w_id d_id) = d_id
place_in_warehouse (Customers w_id d_id) = 10 + d_id
place_in_warehouse (Orders w_id d_id) = 20 + d_id
place_in_warehouse (History w_id d_id) = 30 + d_id
place_in_warehouse (Stock w_id residue) = 41 + residue

-- the place of a group among those of all warehouses
abbrev pub place_of : Group → ℕ
place_of group = 105 * (warehouse_of group - 1) + place_in_warehouse group

-- each seat is of one of these groups, and is at its group's place
pub record AreAtPlaces (warehouses : ℕ) (seats : List CommittedGroup) : Type 0 where
  pub groups : (place : ℕ) (d : CommittedGroup) → place < length seats → IsGroupOf warehouses (slice_index_or seats place d).group
  pub places : (place : ℕ) (d : CommittedGroup) → place < length seats → place_of (slice_index_or seats place d).group ≡ place

-- there is a seat for each group of this number of warehouses, at its place
pub record AreInPlace (warehouses : ℕ) (seats : List CommittedGroup) : Type 0 where
  pub all_there : length seats ≡ 105 * warehouses
  pub at_places : AreAtPlaces warehouses seats
