use Rattle.partitions.specs.Parts.{shared_of}
use Rattle.executor.proofs.AtShards.{ran_at_once}
use Rattle.executor.proofs.counted_shard.CountedShard.work_at_once.Goals as goal

pub returns-clause-sound : goal.returns-clause-sound
returns-clause-sound g c =
    ran_at_once c.works_are_done_at_home.ensures (shared_of g.J.LogNames.opening) c.args.by c.args.work c.self.inside.shard c.act_at_once.new.self c.act_at_once.result c.self.invariant.0.shared_is
    c.act_at_once.ensures.ran
