use Rattle.partitions.specs.Parts.{shared_of}
use Rattle.world.proofs.NeverStuck.{never_stuck_seen}
use Rattle.world.proofs.world.World.is_quiet.Goals as goal

pub returns-then-are_empty-clause-never_stuck : goal.returns-then-are_empty-clause-never_stuck
returns-then-are_empty-clause-never_stuck g c = never_stuck_seen (shared_of g.J.LogNames.opening) c.self.inside.core c.args.self.now c.self.view_is c.self.invariant.0

pub returns-else-are_empty-clause-never_stuck : goal.returns-else-are_empty-clause-never_stuck
returns-else-are_empty-clause-never_stuck g c = never_stuck_seen (shared_of g.J.LogNames.opening) c.self.inside.core c.args.self.now c.self.view_is c.self.invariant.0
