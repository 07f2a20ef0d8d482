-- The holders that conflict with an action that dies.
use Rattle.std.proofs.Common.{◌≡◌, ℕ, List, map, sym, subst}
use Rattle.std.specs.Prelude.{Contains}
use Rattle.requests.specs.declared.group.Group.{Group}
use Rattle.groups.specs.declared.group_wants.GroupWant.{GroupWant}
use Rattle.local_locks.specs.Conflicts.{Blocks, ClaimConflicts, MustDie}
use Rattle.local_locks.specs.LockTableView.{HeldClaim}
use Rattle.local_locks.proofs.Views.{unmapped}
use Rattle.transactions.specs.Works.{want_of}

-- a claim on a group that one wants for
pub record HoldsGroupWanted (holdings : List HeldClaim) (group_wants : List GroupWant) : Type 0 where
  pub holding : HeldClaim
  pub held : Contains holdings holding
  pub group_want : GroupWant
  pub group_wanted : Contains group_wants group_want
  pub on : holding.group ≡ group_want.group

-- it dies of a holder of a group that it wants
pub dies_of_holder : (holdings : List HeldClaim) (age : ℕ) (group_wants : List GroupWant) (group : Group) (oldest : ℕ) → MustDie holdings age (map want_of group_wants) group oldest → HoldsGroupWanted holdings group_wants
dies_of_holder holdings age group_wants group oldest death =
    let h = death.some.0 in
    let blocks : Blocks holdings (map want_of group_wants) h = death.some.1 in
    let any = blocks.1 in
    let found = unmapped want_of group_wants any.1 (any.0, any.2, any.3) in
    let conflict : ClaimConflicts holdings h (want_of found.0) = subst (ClaimConflicts holdings h) (sym found.2) any.4 in
    record { holding = h; held = blocks.0; group_want = found.0; group_wanted = found.1; on = sym conflict.covered }
