use Rattle.local_locks.proofs.Apartness.{can_ask_both}
use Rattle.local_locks.proofs.tests.Trial.ask_for_both.Goals as goal

pub ask-requires : goal.ask-requires
ask-requires g c = can_ask_both g.J.GroupNames.warehouses 1 c.args.first c.args.second c.requires.first c.requires.second c.requires.apart
