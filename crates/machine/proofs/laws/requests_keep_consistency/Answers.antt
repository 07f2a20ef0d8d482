use Rattle.machine.proofs.RequestLaws as laws
use Rattle.machine.proofs.laws.requests_keep_consistency.Goals as goal

pub returns : goal.returns
returns c = laws.requests_keep_consistency
