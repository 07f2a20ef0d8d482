use Rattle.machine.proofs.NewOrderGroups as groups
use Rattle.machine.proofs.laws.new_order_reads_its_groups.Goals as goal

pub returns : goal.returns
returns c = groups.new_order_reads_its_groups
