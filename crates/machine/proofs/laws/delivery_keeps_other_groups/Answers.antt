use Rattle.machine.proofs.DeliveryGroups as groups
use Rattle.machine.proofs.laws.delivery_keeps_other_groups.Goals as goal

pub returns : goal.returns
returns c = groups.delivery_keeps_other_groups
