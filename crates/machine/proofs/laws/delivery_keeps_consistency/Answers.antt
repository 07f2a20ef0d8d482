use Rattle.machine.proofs.DeliveryConsistency as kept
use Rattle.machine.proofs.laws.delivery_keeps_consistency.Goals as goal

pub returns : goal.returns
returns c = kept.delivery_keeps_consistency
