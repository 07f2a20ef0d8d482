-- The entries of a lock table: the groups that are held or waited for, in the order in which they were taken.
use Rattle.std.specs.Prelude.{◌≡◌, ◌&&◌, ◌||◌, Bool, not, List, ◌++◌, filter}
use Rattle.std.specs.List.{IsDistinct, list_any}
use Rattle.requests.specs.declared.group.Group.{Group}
use Rattle.groups.specs.Groups.{is_same}
use Rattle.groups.specs.declared.wants.Want.{Want}
use Rattle.local_locks.specs.LockTableView.{HeldClaim, LockTableView, WaitingAction, groups_of}
use Rattle.local_locks.specs.GroupWants.{group_wants}

-- ---- which groups are held or waited for

-- whether one of the wants is for this group
abbrev pub is_wanted : List Want → Group → Bool
is_wanted wants group = list_any (λ want. is_same want.group group) (group_wants wants)

-- whether a claim on this group is out
abbrev pub is_held : List HeldClaim → Group → Bool
is_held holdings group = list_any (λ holding. is_same holding.group group) holdings

-- whether an action waits for this group, alone or with others
abbrev pub is_awaited : List WaitingAction → Group → Bool
is_awaited waiters group = list_any (λ waiting. is_wanted waiting.wants group) waiters

-- whether the group is held or waited for
abbrev pub is_used : List HeldClaim → List WaitingAction → Group → Bool
is_used holdings waiters group = is_held holdings group || is_awaited waiters group

-- ---- the entries

-- whether the group has an entry
abbrev pub is_entered : List Group → Group → Bool
is_entered entries group = list_any (is_same group) entries

-- whether the group is wanted and has no entry yet
abbrev pub is_new : List Want → List Group → Group → Bool
is_new wants entries group = is_wanted wants group && not (is_entered entries group)

-- The entries once an action holds the groups that it wants, or waits for them: those of its groups that had no entry
-- come last, in the order of groups.
abbrev pub entered : List Want → LockTableView → List Group
entered wants table = table.entries ++ filter (is_new wants table.entries) (groups_of table.stands)

-- those entries whose groups are still held or waited for, in their order
abbrev pub still_used : List HeldClaim → List WaitingAction → List Group → List Group
still_used holdings waiters entries = filter (is_used holdings waiters) entries

-- A group has an entry exactly if it is held or waited for, and no group has two.
pub record AreEntries (table : LockTableView) : Type 0 where
  pub used : (group : Group) → is_entered table.entries group ≡ is_used table.holdings table.waiters group
  pub once : IsDistinct is_same table.entries
