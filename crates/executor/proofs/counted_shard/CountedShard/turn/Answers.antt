use Rattle.std.proofs.Common.{subst, sym, ◌∙◌}
use Rattle.std.specs.Prelude.{All}
use Rattle.local_locks.specs.Asking.{StillWaits}
use Rattle.transactions.specs.Shards.{ShardView}
use Rattle.executor.specs.declared.act.Carried.{Carried}
use Rattle.partitions.specs.Parts.{shared_of}
use Rattle.executor.specs.ExecutorShards.{AreAtMost}
use Rattle.executor.proofs.AtShards.{after_turns, counted_less, turn_reports}
use Rattle.executor.proofs.counted_shard.CountedShard.turn.Goals as goal

pub invariant_of-result : goal.invariant_of-result
invariant_of-result g c =
    turn_reports c.works_are_done_at_home.ensures (shared_of g.J.LogNames.opening) c.self.inside.shard c.turn.new.self c.in-Some.turned c.self.invariant.0 c.in-Some.ensures.turn

pub invariant_of-self-2 : goal.invariant_of-self-2
invariant_of-self-2 g c = (
  after_turns c.works_are_done_at_home.ensures (shared_of g.J.LogNames.opening) c.self.inside.shard c.turn.new.self c.turn.result c.self.invariant.0 c.turn.ensures.turn c.turn.ensures.same,
  counted_less c.works_are_done_at_home.ensures (shared_of g.J.LogNames.opening) c.self.inside.shard c.turn.new.self c.in-Some.turned c.self.inside.waiting c.one_less-self-inside.result c.self.invariant.1 c.one_less-self-inside.ensures
      c.in-Some.ensures.turn,
)

pub invariant_of-self : goal.invariant_of-self
invariant_of-self g c = (
  after_turns c.works_are_done_at_home.ensures (shared_of g.J.LogNames.opening) c.self.inside.shard c.turn.new.self c.turn.result c.self.invariant.0 c.turn.ensures.turn c.turn.ensures.same,
  subst (λ (s : ShardView (Carried g.row.J.Denot)). AreAtMost c.self.inside.waiting s.parked) (sym c.in_default.ensures.same) c.self.invariant.1,
)

pub returns-in_default : goal.returns-in_default
returns-in_default g c = (
  subst (λ (s : ShardView (Carried g.row.J.Denot)). All (StillWaits s.slice.holdings) s.slice.waiters) c.self.view_is c.in_default.ensures.none,
  c.in_default.ensures.same ∙ c.self.view_is,
)
