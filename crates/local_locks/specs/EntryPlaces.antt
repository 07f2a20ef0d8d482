-- The entries of a lock table, by the places of groups among those of the warehouse.
use Rattle.std.specs.Prelude.{◌≡◌, ◌==◌, ◌&&◌, ◌||◌, ℕ, ◌<◌, ◌≤◌, Bool, false, not, List, ◌++◌, All, Option, None, Some, filter, length, map, slice_index_or, if◌then◌else◌}
use Rattle.std.specs.List.{list_any, range_with_len}
use Rattle.requests.specs.declared.group.Group.{Group}
use Rattle.groups.specs.declared.group_wants.Mode.{Mode}
use Rattle.groups.specs.declared.wants.Want.{Want}
use Rattle.local_locks.specs.LockTableView.{LockTableView}
use Rattle.local_locks.specs.Entries.{is_entered, is_used}
use Rattle.local_locks.specs.Locks.{LockView, WaiterView, locking}
use Rattle.local_locks.specs.Rulings.{Spot, spots_of}

-- ---- which places are held or waited for

-- whether the spot is at this place
abbrev pub is_at : ℕ → Spot → Bool
is_at place spot = spot.number == place

-- whether the want covers this place
abbrev pub covers_at : ℕ → Want → Bool
covers_at place want = list_any (is_at place) (spots_of want)

-- whether one of the wants is for the group at this place
abbrev pub is_wanted_at : List Want → ℕ → Bool
is_wanted_at wants place = list_any (covers_at place) wants

-- for each place the test whether one of the wants is for the group there
abbrev pub AreWantedPlaces : List Want → List Bool → Type 0
AreWantedPlaces wants tests = (place : ℕ) → place < 105 → slice_index_or tests place false ≡ is_wanted_at wants place

-- All places that are wanted are from the first of these on and before the second.
pub record AreBounds (first end : ℕ) (wants : List Want) : Type 0 where
  pub rising : first ≤ end
  pub inside : end ≤ 105
  pub before : (place : ℕ) → place < first → is_wanted_at wants place ≡ false
  pub after : (place : ℕ) → end ≤ place → is_wanted_at wants place ≡ false

-- whether a claim on the lock's group is out
abbrev pub is_lent : LockView → Bool
is_lent lock = not (length lock.holders == 0)

-- the mode of the claims on the lock's group that are out; none if there is no such claim
abbrev pub mode_lent : LockView → Option Mode
mode_lent lock = if is_lent lock then Some lock.ticket_box.mode else None

-- whether a claim on the group at this place is out
abbrev pub is_held_at : List LockView → ℕ → Bool
is_held_at locks place = slice_index_or (map is_lent locks) place false

-- whether an action waits for the group at this place
abbrev pub is_awaited_at : List WaiterView → ℕ → Bool
is_awaited_at waiters place = list_any (λ p. is_wanted_at p.wants place) waiters

-- whether this action waits for the group at this place
abbrev pub waits_at : ℕ → WaiterView → Bool
waits_at place waiter = is_wanted_at waiter.wants place

-- whether the group at this place is held or waited for
abbrev pub is_used_at : List LockView → List WaiterView → ℕ → Bool
is_used_at locks waiters place = is_held_at locks place || is_awaited_at waiters place

-- ---- the places of the entries

-- whether the place is among these
abbrev pub is_among : List ℕ → ℕ → Bool
is_among places place = list_any (λ other. place == other) places

-- whether the place is wanted and not among these
abbrev pub is_fresh : List Want → List ℕ → ℕ → Bool
is_fresh wants places place = is_wanted_at wants place && not (is_among places place)

-- these places, and after them those that are wanted and not among them, in order
abbrev pub with_wanted : List Want → List ℕ → List ℕ
with_wanted wants places = places ++ filter (is_fresh wants places) (range_with_len 0 105)

-- the places without this one
abbrev pub without : ℕ → List ℕ → List ℕ
without place places = filter (λ other. not (place == other)) places

-- the places, without this one if it is not used
abbrev pub kept_if : Bool → ℕ → List ℕ → List ℕ
kept_if used place places = if used then places else without place places

-- these are places of a warehouse's groups
abbrev pub ArePlaces : List ℕ → Type 0
ArePlaces places = All (λ place. place < 105) places

-- a group has an entry exactly if it is held or waited for
abbrev pub IsEnteredIfUsed : LockTableView → Group → Type 0
IsEnteredIfUsed table group = is_entered table.entries group ≡ is_used table.holdings table.waiters group

-- the entries of a table of these locks and waiting actions are at these places
pub record AreEntryPlaces (w_id : ℕ) (locks : List LockView) (waiters : List WaiterView) (places : List ℕ) : Type 0 where
  pub inside : ArePlaces places
  pub used : (group : Group) → IsEnteredIfUsed (locking w_id locks waiters places) group
