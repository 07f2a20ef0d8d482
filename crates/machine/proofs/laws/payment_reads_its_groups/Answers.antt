use Rattle.machine.proofs.PaymentGroups as groups
use Rattle.machine.proofs.laws.payment_reads_its_groups.Goals as goal

pub returns : goal.returns
returns c = groups.payment_reads_its_groups
