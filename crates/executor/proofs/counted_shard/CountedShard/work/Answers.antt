use Rattle.partitions.specs.Parts.{shared_of}
use Rattle.executor.specs.Carrying.{ActView, act_view}
use Rattle.executor.proofs.AtShards.{after_acts, counted, counted_more, reports_recorded}
use Rattle.executor.proofs.counted_shard.CountedShard.work.Given as given
use Rattle.executor.proofs.counted_shard.CountedShard.work.Goals as goal
use Rattle.executor.proofs.counted_shard.CountedShard.work.Goals.{After-try_action}

-- the action
abbrev act_of : (g : given.Over) → After-try_action g → ActView
act_of g c = let e = c.act.inside in act_view e.by e.work e.place e.flow

pub invariant_of-result : goal.invariant_of-result
invariant_of-result g c =
    reports_recorded c.works_are_done_at_home.ensures (shared_of g.J.LogNames.opening) (act_of g (goal.at.invariant_of-result g c).After-try_action) c.in-Ran.carried c.self.inside.shard c.try_action.new.self c.in-Ran.ran
    c.act.invariant c.self.invariant.0 c.in-Ran.ensures

pub invariant_of-self : goal.invariant_of-self
invariant_of-self g c =
    let e = act_of g (goal.at.invariant_of-self g c).After-try_action in (
      after_acts c.works_are_done_at_home.ensures (shared_of g.J.LogNames.opening) e c.self.inside.shard c.try_action.new.self c.try_action.result c.act.invariant c.self.invariant.0 c.try_action.ensures,
      counted c.works_are_done_at_home.ensures (shared_of g.J.LogNames.opening) e c.in-Ran.carried c.self.inside.shard c.try_action.new.self c.in-Ran.ran c.self.inside.waiting c.self.invariant.1 c.in-Ran.ensures,
    )

pub invariant_of-self-in-Waits : goal.invariant_of-self-in-Waits
invariant_of-self-in-Waits g c =
    let e = act_of g (goal.at.invariant_of-self-in-Waits g c).After-try_action in (
      after_acts c.works_are_done_at_home.ensures (shared_of g.J.LogNames.opening) e c.self.inside.shard c.try_action.new.self c.try_action.result c.act.invariant c.self.invariant.0 c.try_action.ensures,
      counted_more c.works_are_done_at_home.ensures (shared_of g.J.LogNames.opening) e c.self.inside.shard c.try_action.new.self c.self.inside.waiting c.one_more-self-inside.result c.self.invariant.1 c.one_more-self-inside.ensures c.in-Waits.ensures,
    )
