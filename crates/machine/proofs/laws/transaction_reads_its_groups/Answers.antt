use Rattle.machine.proofs.RequestLaws as laws
use Rattle.machine.proofs.laws.transaction_reads_its_groups.Goals as goal

pub returns : goal.returns
returns c = laws.transaction_reads_its_groups
