use Rattle.transactions.proofs.Reached as law
use Rattle.transactions.proofs.laws.transactions_have_few_actions.Goals as goal

pub returns : goal.returns
returns c = law.few_actions
