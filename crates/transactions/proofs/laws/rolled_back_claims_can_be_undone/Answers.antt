use Rattle.transactions.proofs.Undone as law
use Rattle.transactions.proofs.laws.rolled_back_claims_can_be_undone.Goals as goal

pub returns : goal.returns
returns c = law.rolled_back_claims_can_be_undone
