use Rattle.transactions.proofs.Reached as law
use Rattle.transactions.proofs.laws.reached_requests_are_accepted.Goals as goal

pub returns : goal.returns
returns c = law.accepted
