use Rattle.transactions.proofs.GroupWanted as law
use Rattle.transactions.proofs.laws.works_have_group_wants.Goals as goal

pub returns-clause-some : goal.returns-clause-some
returns-clause-some c = law.works_have_group_wants

pub returns-clause-claims : goal.returns-clause-claims
returns-clause-claims c = law.works_have_a_claim_for_each_group_want
