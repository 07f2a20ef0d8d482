use Rattle.machine.proofs.RequestLaws as laws
use Rattle.machine.proofs.laws.transaction_keeps_consistency.Goals as goal

pub returns : goal.returns
returns c = laws.transaction_keeps_consistency
