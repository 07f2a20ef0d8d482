use Rattle.transactions.proofs.Reached as law
use Rattle.transactions.proofs.laws.actions_can_do_their_work.Goals as goal

pub returns : goal.returns
returns c = law.can_all
