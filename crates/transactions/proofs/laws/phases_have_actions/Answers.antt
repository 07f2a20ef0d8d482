use Rattle.transactions.proofs.Reached as law
use Rattle.transactions.proofs.laws.phases_have_actions.Goals as goal

pub returns : goal.returns
returns c = law.some_actions
