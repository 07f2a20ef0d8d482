use Rattle.machine.proofs.ConsistencyKept as kept
use Rattle.machine.proofs.laws.payment_keeps_consistency.Goals as goal

pub returns : goal.returns
returns c = kept.payment_keeps_consistency
