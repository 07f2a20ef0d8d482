use Rattle.std.proofs.Common.{[], Option, Some, None, IfNone, subst}
use Rattle.std.specs.Prelude.{All}
use Rattle.local_locks.specs.declared.table.Turn.{Turn}
use Rattle.local_locks.specs.Asking.{StillWaits}
use Rattle.slices.specs.Asked.{TakesTurnIn, claims_of_turn}
use Rattle.slices.specs.SliceView.{SliceKeeps, with_waiters}
use Rattle.transactions.specs.declared.acting.Ran.TheVariants.{Died}
use Rattle.transactions.specs.Shards.{IsShard, OneTurn, ShardView, shard_view}
use Rattle.transactions.proofs.Shards as shards
use Rattle.transactions.proofs.shard.Shard.turn.Given as given
use Rattle.transactions.proofs.shard.Shard.turn.Goals as goal
use Rattle.transactions.proofs.shard.Shard.turn.Goals.{After-run_under-ran}

if_none : {T : Type 0} (o : Option T) (P : Type 0) → P → IfNone o P
if_none (Some x) P p = tt
if_none None P p = p

pub returns-in_err-index-clause-none : goal.returns-in_err-index-clause-none
returns-in_err-index-clause-none g c =
    if_none c.from_residual.result _ (subst (λ (s : ShardView g.row.T.Denot). All (StillWaits s.slice.holdings) s.slice.waiters) c.self.view_is c.in_err-index.ensures.none)

pub run_under-ran-requires-clause-granted : goal.run_under-ran-requires-clause-granted
run_under-ran-requires-clause-granted g c =
    let slice = c.self.inside.slice in
    let by = c.in-Granted.by in
    let takes = subst (λ (t : Turn g.row.J.Denot). TakesTurnIn slice t c.next_grant.new.self) c.in-Granted.is c.in_ok-index.ensures.turn in
    shards.granted_there g.J.GroupNames.warehouses slice c.next_grant.new.self c.self.inside.parked.items c.remove-work.new.self.items c.in-Granted.index by takes.0 c.remove-work.result
    c.self.invariant takes.1 c.remove-work.ensures.value c.remove-work.ensures.items c.in-Granted.claims.items takes.2

-- the turn of an action that is granted all
granted : (g : given.Over) (c : After-run_under-ran g)
    → OneTurn (shard_view c.self.inside.slice c.self.inside.parked.items) (record { by = c.in-Granted.by; ran = c.run_under-ran.result; carried = c.remove-work.result.carried }) (shard_view c.run_under-ran.new.slice c.remove-work.new.self.items)
    × IsShard g.J.GroupNames.warehouses c.run_under-ran.new.slice c.remove-work.new.self.items
granted g c =
    let slice = c.self.inside.slice in
    let by = c.in-Granted.by in
    let takes = subst (λ (t : Turn g.row.J.Denot). TakesTurnIn slice t c.next_grant.new.self) c.in-Granted.is c.in_ok-index.ensures.turn in
    let first = subst (λ (t : Turn g.row.J.Denot). SliceKeeps [] (with_waiters c.next_grant.new.self.waiters slice) (claims_of_turn t) c.next_grant.new.self) c.in-Granted.is c.in_ok-index.ensures.kept in
    shards.turn_granted g.J.GroupNames.warehouses slice c.next_grant.new.self c.self.inside.parked.items c.remove-work.new.self.items c.in-Granted.index by takes.0 c.remove-work.result
    c.self.invariant takes.1 c.remove-work.ensures.value c.remove-work.ensures.items c.run_under-ran.result c.in-Granted.claims.items c.run_under-ran.new.slice takes.2 first c.run_under-ran.ensures.done c.run_under-ran.ensures.kept

pub invariant_of-self-in-Granted : goal.invariant_of-self-in-Granted
invariant_of-self-in-Granted g c = (granted g (goal.at.invariant_of-self-in-Granted g c).After-run_under-ran).1

pub returns-in-Granted-clause-turn : goal.returns-in-Granted-clause-turn
returns-in-Granted-clause-turn g c =
    subst (λ (s : ShardView g.row.T.Denot). OneTurn s (record { by = c.in-Granted.by; ran = c.run_under-ran.result; carried = c.remove-work.result.carried }) (shard_view c.run_under-ran.new.slice c.remove-work.new.self.items))
    c.self.view_is (granted g (goal.at.returns-in-Granted-clause-turn g c).After-run_under-ran).0

pub invariant_of-self-in-Dies : goal.invariant_of-self-in-Dies
invariant_of-self-in-Dies g c =
    let slice = c.self.inside.slice in
    let takes = subst (λ (t : Turn g.row.J.Denot). TakesTurnIn slice t c.next_grant.new.self) c.in-Dies.is c.in_ok-index.ensures.turn in
    (shards.turn_died g.J.GroupNames.warehouses slice c.next_grant.new.self c.self.inside.parked.items c.remove-work-in-Dies.new.self.items c.in-Dies.index c.in-Dies.by takes.0 c.remove-work-in-Dies.result
    c.self.invariant takes.1 c.remove-work-in-Dies.ensures.value c.remove-work-in-Dies.ensures.items g.row.J.Denot c.in-Dies.group c.in-Dies.holder takes.2 takes.3).1

pub returns-in-Dies-clause-turn : goal.returns-in-Dies-clause-turn
returns-in-Dies-clause-turn g c =
    let slice = c.self.inside.slice in
    let takes = subst (λ (t : Turn g.row.J.Denot). TakesTurnIn slice t c.next_grant.new.self) c.in-Dies.is c.in_ok-index.ensures.turn in
    let died = shards.turn_died g.J.GroupNames.warehouses slice c.next_grant.new.self c.self.inside.parked.items c.remove-work-in-Dies.new.self.items c.in-Dies.index c.in-Dies.by takes.0 c.remove-work-in-Dies.result
    c.self.invariant takes.1 c.remove-work-in-Dies.ensures.value c.remove-work-in-Dies.ensures.items g.row.J.Denot c.in-Dies.group c.in-Dies.holder takes.2 takes.3 in
    subst (λ (s : ShardView g.row.T.Denot). OneTurn {J = g.row.J.Denot} s (record { by = c.in-Dies.by; ran = Died c.in-Dies.group c.in-Dies.holder; carried = c.remove-work-in-Dies.result.carried }) (shard_view c.next_grant.new.self c.remove-work-in-Dies.new.self.items))
    c.self.view_is died.0
