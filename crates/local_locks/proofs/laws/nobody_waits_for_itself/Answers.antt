use Rattle.local_locks.proofs.Rising as rising
use Rattle.local_locks.proofs.laws.nobody_waits_for_itself.Goals as goal

pub returns : goal.returns
returns c = rising.nobody_waits_for_itself
