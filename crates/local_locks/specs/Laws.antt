-- Laws of every table, and of who waits for whom.
use Rattle.std.specs.Prelude.{◌≡◌, ◌↔◌, ℕ, ◌≤◌, List, [], ◌∷◌, All, AllPairs, Any, Contains}
use Rattle.requests.specs.declared.group.Group.{Group}
use Rattle.groups.specs.Groups.{warehouse_of}
use Rattle.groups.specs.Wants.{Covers}
use Rattle.groups.specs.declared.group_wants.Mode.TheVariants.{Shared}
use Rattle.groups.specs.declared.wants.Want.{Want}
use Rattle.tickets.specs.Places.{IsGroupOf}
use Rattle.local_locks.specs.LockTableView.{HeldClaim, WaitingAction, Stand, LockTableView}
use Rattle.local_locks.specs.Conflicts.{Blocks, shared_on}
use Rattle.local_locks.specs.Asking.{StillWaits}
use Rattle.local_locks.specs.GroupWants.{CanAsk, group_want_of, group_wants_in}

-- two claims on one group are both shared
abbrev pub AreCompatible : HeldClaim → HeldClaim → Type 0
AreCompatible a b = a.group ≡ b.group → (a.mode ≡ Shared) × (b.mode ≡ Shared)

-- No two claims conflict: two on one group are both shared, and at most eight are out on each group.
pub record NoneConflict (holdings : List HeldClaim) : Type 0 where
  pub pairs : AllPairs AreCompatible holdings
  pub most : (group : Group) → shared_on group holdings ≤ 8

-- if the claim is on this group, it is shared
abbrev pub IsNotAlone : Group → HeldClaim → Type 0
IsNotAlone group holding = holding.group ≡ group → holding.mode ≡ Shared

-- if no exclusive claim on the group is out, nothing is left to undo in it
abbrev pub IsUntouched : List HeldClaim → Stand → Type 0
IsUntouched holdings stand = All (IsNotAlone stand.group) holdings → stand.back ≡ stand.left

-- in no group without an exclusive claim out is anything left to undo
abbrev pub AreUntouched : List HeldClaim → List Stand → Type 0
AreUntouched holdings stands = All (IsUntouched holdings) stands

-- the claim is on a group of the warehouse
abbrev pub IsClaimOf : ℕ → ℕ → HeldClaim → Type 0
IsClaimOf warehouses w_id holding = IsGroupOf warehouses holding.group × (warehouse_of holding.group ≡ w_id)

-- the waiting action's wants can be asked of the table
abbrev pub CouldAsk : ℕ → ℕ → WaitingAction → Type 0
CouldAsk warehouses w_id waiting = CanAsk warehouses w_id waiting.wants

-- ---- who waits for whom

-- an action of age t waits for a group on which one of age u has a conflicting claim
pub record WaitsFor (table : LockTableView) (t u : ℕ) : Type 0 where
  pub waiting : WaitingAction
  pub waits : Contains table.waiters waiting
  pub age : waiting.by.age ≡ t
  pub holding : HeldClaim
  pub blocks : Blocks table.holdings waiting.wants holding
  pub holder : holding.by.age ≡ u

-- an action of age t waits for one of age u in one of these tables
abbrev pub WaitsSomewhere : List LockTableView → ℕ → ℕ → Type 0
WaitsSomewhere tables t u = Any (λ table. WaitsFor table t u) tables

-- each waits for the next, and the last for u
abbrev pub Path : (ℕ → ℕ → Type 0) → ℕ → List ℕ → ℕ → Type 0
Path waits t [] u = waits t u
Path waits t (next ∷ ages) u = waits t next × Path waits next ages u

-- all waiting actions of the table have to wait
abbrev pub AllHaveToWait : LockTableView → Type 0
AllHaveToWait table = All (StillWaits table.holdings) table.waiters

-- If all waiting actions of some tables have to wait, none waits for itself, through any others, from table to table.
abbrev pub NobodyWaitsForItself : Type 0
NobodyWaitsForItself =
    (tables : List LockTableView) → All AllHaveToWait tables → (t : ℕ) (ages : List ℕ) → Path (WaitsSomewhere tables) t ages t → ⊥

-- ---- wants

-- Of the groups that exist, `group_wants_in` has a want for each that the want covers, and for no other: for a
-- prefix, one for each group of its kind and warehouse.
abbrev pub EachCoveredGroupIsWanted : Type 0
EachCoveredGroupIsWanted =
    (warehouses : ℕ) (want : Want) (group : Group)
    → IsGroupOf warehouses group → Covers want group ↔ Contains (group_wants_in want) (group_want_of want group)
