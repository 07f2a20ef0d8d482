use Rattle.machine.proofs.DeliveryGroups as groups
use Rattle.machine.proofs.laws.delivery_reads_its_groups.Goals as goal

pub returns : goal.returns
returns c = groups.delivery_reads_its_groups
