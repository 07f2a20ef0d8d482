-- Whose turn it is among the waiting actions, by the places of groups.
use Rattle.std.specs.Prelude.{◌≡◌, ◌≢◌, ℕ, ◌<◌, List, Bool, Option, Some, None, All, length, slice_index_or, nat_lt, ◌==◌, ◌||◌, ◌&&◌, if◌then◌else◌}
use Rattle.std.specs.List.{flat_map}
use Rattle.wait_die.specs.declared.deciding.Holder.{Holder}
use Rattle.local_locks.specs.declared.rulings.Ruling.{Ruling}
use Rattle.local_locks.specs.declared.rulings.Ruling.TheVariants.{Waits}
use Rattle.local_locks.specs.declared.waiting.Next.{Next}
use Rattle.local_locks.specs.Asking.{IsBefore}
use Rattle.local_locks.specs.Locks.{LockView, WaiterView}
use Rattle.local_locks.specs.Rulings.{IsRuling, spots_of}
use Rattle.local_locks.specs.GroupWants.{IsWanted}

-- the groups for which the action waits exist
abbrev pub IsParkedThere : ℕ → WaiterView → Type 0
IsParkedThere warehouses p = All (IsWanted warehouses) p.wants

-- the ruling on the waiting action is that it still has to wait
abbrev pub StaysParked : List LockView → WaiterView → Type 0
StaysParked locks p = IsRuling p.by.age locks (flat_map spots_of p.wants) Waits

-- if this action's turn comes before that holder's, it still has to wait
abbrev pub StaysIfBefore : List LockView → Holder → WaiterView → Type 0
StaysIfBefore locks by p = IsBefore p.by by → StaysParked locks p

-- `next` is the waiting action at this index with the ruling on it, which is not to wait, and all actions before it
-- have to wait.
pub record IsNext (locks : List LockView) (waiters : List WaiterView) (next : Next) : Type 0 where
  pub inside : next.index < length waiters
  pub by : (d : WaiterView) → (slice_index_or waiters next.index d).by ≡ next.by
  pub said : (d : WaiterView) → IsRuling next.by.age locks (flat_map spots_of (slice_index_or waiters next.index d).wants) next.ruling
  pub over : next.ruling ≢ Waits
  pub first : All (StaysIfBefore locks next.by) waiters

-- the older goes first, and of one age the one of the lesser place
abbrev pub is_before : Holder → Holder → Bool
is_before a b = nat_lt a.age b.age || ((a.age == b.age) && nat_lt a.place b.place)

-- whose turn it is: the action found so far, or this one, given the ruling on it
abbrev pub chosen : Option Next → Next → Ruling → Option Next
chosen found this Waits = found
chosen None this ruling = Some this
chosen (Some other) this ruling = if is_before this.by other.by then Some this else Some other

-- of the action found so far and this one, the one whose turn comes first
abbrev pub sooner : Option Next → Next → Option Next
sooner found this = chosen found this this.ruling
