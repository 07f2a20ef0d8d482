-- Which holders conflict with an action's wants, and the answer: the action is free, waits, or dies.
use Rattle.std.specs.Prelude.{◌≡◌, ◌≢◌, ◌⊎◌, ◌&&◌, ℕ, ◌<◌, ◌≤◌, List, Bool, true, false, Any, Contains, count_by}
use Rattle.std.specs.declared.cmp.Ordering.TheVariants.{Greater}
use Rattle.requests.specs.declared.group.Group.{Group}
use Rattle.groups.specs.Groups.{group_cmp, is_same}
use Rattle.groups.specs.Wants.{Covers}
use Rattle.groups.specs.declared.group_wants.Mode.{Mode}
use Rattle.groups.specs.declared.group_wants.Mode.TheVariants.{Shared, Exclusive}
use Rattle.groups.specs.declared.wants.Want.{Want}
use Rattle.local_locks.specs.LockTableView.{HeldClaim}

-- the mode is shared
abbrev pub is_shared : Mode → Bool
is_shared Shared = true
is_shared Exclusive = false

-- the number of shared claims on a group that are out
abbrev pub shared_on : Group → List HeldClaim → ℕ
shared_on group holdings = count_by (λ holding. is_same holding.group group && is_shared holding.mode) holdings

-- A held claim conflicts with a want: its group is wanted, and one of the two is exclusive, or all eight shared
-- claims on the group are out
pub record ClaimConflicts (holdings : List HeldClaim) (holding : HeldClaim) (want : Want) : Type 0 where
  pub covered : Covers want holding.group
  pub apart : (want.mode ≡ Exclusive) ⊎ ((holding.mode ≡ Exclusive) ⊎ (8 ≤ shared_on holding.group holdings))

-- this holding is one of those that conflict with the wants
abbrev pub Blocks : List HeldClaim → List Want → HeldClaim → Type 0
Blocks holdings wants holding = Contains holdings holding × Any (ClaimConflicts holdings holding) wants

-- ---- the answer to an action of this age with these wants

-- no holding conflicts
abbrev pub IsFree : List HeldClaim → List Want → Type 0
IsFree holdings wants = (holding : HeldClaim) → Blocks holdings wants holding → ⊥

-- some holding conflicts, and the holders of all that do are younger
pub record MustWait (holdings : List HeldClaim) (age : ℕ) (wants : List Want) : Type 0 where
  pub some : (holding : HeldClaim) × Blocks holdings wants holding
  pub younger : (holding : HeldClaim) → Blocks holdings wants holding → age < holding.by.age

-- Some conflicting holder is not younger. This group is the first, in the order of groups, that such a holder has,
-- and the oldest conflicting holder there has this age.
pub record MustDie (holdings : List HeldClaim) (age : ℕ) (wants : List Want) (group : Group) (oldest : ℕ) : Type 0 where
  pub some : (holding : HeldClaim) × Blocks holdings wants holding × (holding.group ≡ group) × (holding.by.age ≡ oldest)
  pub older : oldest ≤ age
  pub first : (holding : HeldClaim) → Blocks holdings wants holding → holding.by.age ≤ age → group_cmp group holding.group ≢ Greater
  pub oldest_there : (holding : HeldClaim) → Blocks holdings wants holding → holding.group ≡ group → oldest ≤ holding.by.age

-- an action of this age with these wants does not have to die
abbrev pub NeedNotDie : List HeldClaim → ℕ → List Want → Type 0
NeedNotDie holdings age wants = (group : Group) (oldest : ℕ) → MustDie holdings age wants group oldest → ⊥
