use Rattle.machine.proofs.NewOrderConsistency as kept
use Rattle.machine.proofs.laws.new_order_keeps_consistency.Goals as goal

pub returns : goal.returns
returns c = kept.new_order_keeps_consistency
