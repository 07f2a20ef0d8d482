use Rattle.transactions.proofs.Reached as law
use Rattle.transactions.proofs.laws.accepted_requests_have_their_groups.Goals as goal

pub returns : goal.returns
returns c = law.accepted_requests_have_their_groups
