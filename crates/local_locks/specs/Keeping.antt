-- A lock table in the laws of what is committed: the tickets that no holder has are at home.
use Rattle.std.specs.Prelude.{◌≡◌, ℕ, ◌-◌, List, [], Bool, All, map, sum_by, if◌then◌else◌}
use Rattle.requests.specs.declared.group.Group.{Group}
use Rattle.groups.specs.Content.{Content}
use Rattle.groups.specs.Groups.{is_same}
use Rattle.tickets.specs.Claims.{ClaimView}
use Rattle.tickets.specs.Committed.{GroupsOfSlice, KeepsCommitted, tickets_held}
use Rattle.local_locks.specs.LockTableView.{HeldClaim}
use Rattle.local_locks.specs.Asking.{held_by, AreTogether, IsSettled}
use Rattle.local_locks.specs.Laws.{NoneConflict}

-- the number of the group's tickets that a holding has: 0 if it is on another group
abbrev pub tickets_by : Group → HeldClaim → ℕ
tickets_by group holding = if is_same holding.group group then tickets_held holding.mode else 0

-- the number of the group's tickets that all these holdings have
abbrev pub tickets_on : Group → List HeldClaim → ℕ
tickets_on group holdings = sum_by (tickets_by group) holdings

-- the groups have these contents, and the tickets that none of these holdings has are at home
abbrev pub standing_of : (Group → Content) → List HeldClaim → GroupsOfSlice
standing_of rows holdings = record { rows = rows; free = λ group. 8 - tickets_on group holdings }

-- the claim records the content of its group, and left the same
pub record IsNewOn (rows : Group → Content) (claim : ClaimView) : Type 0 where
  pub recorded : claim.recorded ≡ rows claim.group
  pub left : claim.left ≡ rows claim.group

-- Granting claims, one or several, shared ones beside others, keeps what is committed, if no two claims conflict
-- then.
abbrev pub GrantsKeepCommitted : Type 0
GrantsKeepCommitted =
    (here : Group → Bool) (rows : Group → Content) (granted : List ClaimView) (old new : List HeldClaim)
    → AreTogether new (map held_by granted) old → NoneConflict new → All (IsNewOn rows) granted
    → KeepsCommitted here [] (standing_of rows old) granted (standing_of rows new)

-- Giving claims back, whoever holds them, keeps what is committed, if what the exclusive ones left is committed.
abbrev pub ReturnsKeepCommitted : Type 0
ReturnsKeepCommitted =
    (here : Group → Bool) (rows : Group → Content) (claims : List ClaimView) (old new : List HeldClaim)
    → AreTogether old (map held_by claims) new → NoneConflict old → All IsSettled claims
    → KeepsCommitted here claims (standing_of rows old) [] (standing_of rows new)
