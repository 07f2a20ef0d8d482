use Rattle.machine.proofs.PaymentGroups as groups
use Rattle.machine.proofs.laws.payment_keeps_other_groups.Goals as goal

pub returns : goal.returns
returns c = groups.payment_keeps_other_groups
