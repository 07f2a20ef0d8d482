use Rattle.transactions.proofs.GroupWanted as law
use Rattle.transactions.proofs.laws.works_have_their_groups.Goals as goal

pub returns : goal.returns
returns c = law.works_have_their_groups
