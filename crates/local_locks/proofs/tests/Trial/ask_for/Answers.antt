use Rattle.local_locks.proofs.Apartness.{can_ask_one}
use Rattle.local_locks.proofs.tests.Trial.ask_for.Goals as goal

pub ask-requires : goal.ask-requires
ask-requires g c = can_ask_one g.J.GroupNames.warehouses 1 c.args.want c.requires
