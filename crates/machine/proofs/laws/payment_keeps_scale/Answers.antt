use Rattle.machine.proofs.PaymentCases as cases
use Rattle.machine.proofs.laws.payment_keeps_scale.Goals as goal

pub returns : goal.returns
returns c = cases.payment_keeps_scale
