-- What an entry of a lock table shows.
use Rattle.std.specs.Prelude.{◌≡◌, ℕ, Bool, List, [], ◌∷◌, Option, None, Some, filter, map, slice_get}
use Rattle.requests.specs.declared.group.Group.{Group}
use Rattle.groups.specs.Groups.{is_same}
use Rattle.groups.specs.declared.group_wants.Mode.{Mode}
use Rattle.wait_die.specs.declared.deciding.Holder.{Holder}
use Rattle.local_locks.specs.declared.entry.LockEntry.{LockEntry}
use Rattle.local_locks.specs.Entries.{is_wanted}
use Rattle.local_locks.specs.LockTableView.{HeldClaim, LockTableView, WaitingAction}
use Rattle.local_locks.specs.Locks.{WaiterView}

-- the age of a holder
abbrev pub age_of_holder : Holder → ℕ
age_of_holder by = by.age

-- the age of a waiting action
abbrev pub age_of_waiter : WaiterView → ℕ
age_of_waiter waiter = waiter.by.age

-- whether the claim is on this group
abbrev pub is_on : Group → HeldClaim → Bool
is_on group claim = is_same claim.group group

-- whether the action waits for this group, alone or with others
abbrev pub waits_for : Group → WaitingAction → Bool
waits_for group waiting = is_wanted waiting.wants group

-- the mode of the first of these claims; all claims on a group have the same mode
abbrev pub mode_of : List HeldClaim → Option Mode
mode_of [] = None
mode_of (claim ∷ claims) = Some claim.mode

-- Entry n of the table shows its group, the mode and the ages of the claims on it, and the ages of the actions that wait for it.
pub record IsEntryAt (table : LockTableView) (n : ℕ) (entry : LockEntry) : Type 0 where
  pub group : slice_get table.entries n ≡ Some entry.group
  pub mode : entry.mode ≡ mode_of (filter (is_on entry.group) table.holdings)
  pub holders : entry.holders.items ≡ map (λ claim. claim.by.age) (filter (is_on entry.group) table.holdings)
  pub waiters : entry.waiters.items ≡ map (λ waiting. waiting.by.age) (filter (waits_for entry.group) table.waiters)
