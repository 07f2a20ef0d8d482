use Rattle.machine.proofs.PaymentCases as cases
use Rattle.machine.proofs.laws.payment_is_local.Goals as goal

pub returns : goal.returns
returns c = cases.payment_local
