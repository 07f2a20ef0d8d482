use Rattle.transactions.proofs.GroupWanted as law
use Rattle.transactions.proofs.laws.works_claim_at_home.Goals as goal

pub returns : goal.returns
returns c = law.works_claim_at_home
