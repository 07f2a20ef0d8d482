-- The ruling on an action's wants, by the places of groups among those of the warehouse.
use Rattle.std.specs.Prelude.{◌≡◌, ℕ, zero, suc, ◌<◌, ◌≤◌, List, [], ◌∷◌, Contains, map, slice_index_or, nat_lt, if◌then◌else◌}
use Rattle.rows.specs.declared.limits.TheConstants.{STOCK_GROUPS}
use Rattle.groups.specs.declared.group_wants.Mode.{Mode}
use Rattle.groups.specs.declared.wants.Kind.{Kind}
use Rattle.groups.specs.declared.wants.Kind.TheVariants.{Warehouse, District, Customers, Orders, History, Stock}
use Rattle.groups.specs.declared.wants.Extent.{Extent}
use Rattle.groups.specs.declared.wants.Extent.TheVariants.{One, Every}
use Rattle.groups.specs.declared.wants.Want.{Want}
use Rattle.tickets.specs.Places.{place_in_warehouse}
use Rattle.wait_die.specs.declared.deciding.Holder.{Holder}
use Rattle.local_locks.specs.declared.rulings.Ruling.{Ruling}
use Rattle.local_locks.specs.declared.rulings.Ruling.TheVariants.{Free, Waits, Dies}
use Rattle.local_locks.specs.Locks.{LockView, conflicting}

-- ---- places

-- the place of a kind's first group in each warehouse
abbrev pub first_of : Kind → ℕ
first_of Warehouse = 0
first_of District = 1
first_of Customers = 11
first_of Orders = 21
first_of History = 31
first_of Stock = 41

-- the number of groups of the kind in each warehouse
abbrev pub count_of : Kind → ℕ
count_of Warehouse = 1
count_of District = 10
count_of Customers = 10
count_of Orders = 10
count_of History = 10
count_of Stock = STOCK_GROUPS

-- the place of the first group of an extent
abbrev pub first_place : Extent → ℕ
first_place (One group) = place_in_warehouse group
first_place (Every prefix) = first_of prefix.kind

-- the number of groups of an extent
abbrev pub count_in : Extent → ℕ
count_in (One group) = 1
count_in (Every prefix) = count_of prefix.kind

-- a place, and the mode in which its group is wanted
pub record Spot : Type 0 where
  pub number : ℕ
  pub mode : Mode

-- this place, wanted in this mode
abbrev pub spot : ℕ → Mode → Spot
spot number mode = record { number = number; mode = mode }

-- `count` places from `first` on
unfoldable pub spots : ℕ → ℕ → Mode → List Spot
spots first zero mode = []
spots first (suc count) mode = spot first mode ∷ spots (suc first) count mode

-- the places that a want covers, each with the want's mode
abbrev pub spots_of : Want → List Spot
spots_of want = spots (first_place want.extent) (count_in want.extent) want.mode

-- ---- rulings

-- the holders at a place that conflict with a want of this mode
abbrev pub conflicting_at : List LockView → Mode → ℕ → List Holder
conflicting_at locks mode number = slice_index_or (map (conflicting mode) locks) number []

-- one of the holders at this place that conflict with a want for one of the spots
pub record Stops (locks : List LockView) (wanted : List Spot) (number : ℕ) (holder : Holder) : Type 0 where
  pub mode : Mode
  pub wants : Contains wanted (spot number mode)
  pub holds : Contains (conflicting_at locks mode number) holder

-- some holder conflicts, and all that do are younger than this age
pub record AllYounger (age : ℕ) (locks : List LockView) (wanted : List Spot) : Type 0 where
  pub some : (number : ℕ) × (holder : Holder) × Stops locks wanted number holder
  pub younger : (number : ℕ) (holder : Holder) → Stops locks wanted number holder → age < holder.age

-- Some conflicting holder is not younger than this age. This is the first place with such a holder, and the oldest
-- conflicting holder there has the age `oldest`.
pub record FirstNotYounger (age : ℕ) (locks : List LockView) (wanted : List Spot) (number oldest : ℕ) : Type 0 where
  pub some : (holder : Holder) × Stops locks wanted number holder × (holder.age ≡ oldest)
  pub older : oldest ≤ age
  pub first : (other : ℕ) (holder : Holder) → Stops locks wanted other holder → holder.age ≤ age → number ≤ other
  pub oldest_there : (holder : Holder) → Stops locks wanted number holder → oldest ≤ holder.age

-- the ruling on an action of this age that wants the groups at these places
abbrev pub IsRuling : ℕ → List LockView → List Spot → Ruling → Type 0
IsRuling age locks wanted Free = (number : ℕ) (holder : Holder) → Stops locks wanted number holder → ⊥
IsRuling age locks wanted Waits = AllYounger age locks wanted
IsRuling age locks wanted (Dies number oldest) = FirstNotYounger age locks wanted number oldest

-- dying goes before waiting, at the first place of the two, and waiting before being free
abbrev pub joined : Ruling → Ruling → Ruling
joined Free other = other
joined Waits Free = Waits
joined Waits other = other
joined (Dies number oldest) (Dies second age) = if nat_lt second number then Dies second age else Dies number oldest
joined (Dies number oldest) other = Dies number oldest
