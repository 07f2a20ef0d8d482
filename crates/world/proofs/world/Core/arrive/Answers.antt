use Rattle.partitions.specs.Parts.{shared_of}
use Rattle.world.proofs.Steps.{is_awaited}
use Rattle.world.proofs.world.Core.arrive.Goals as goal

pub report-requires : goal.report-requires
report-requires g c = is_awaited (shared_of g.J.LogNames.opening) c.requires.0 c.args.self.now c.requires.1
