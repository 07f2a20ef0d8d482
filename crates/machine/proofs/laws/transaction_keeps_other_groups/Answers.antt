use Rattle.machine.proofs.RequestLaws as laws
use Rattle.machine.proofs.laws.transaction_keeps_other_groups.Goals as goal

pub returns : goal.returns
returns c = laws.transaction_keeps_other_groups
