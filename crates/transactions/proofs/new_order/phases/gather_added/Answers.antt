use Rattle.transactions.proofs.NewOrderSteps.{added_follows}
use Rattle.transactions.proofs.new_order.phases.gather_added.Goals as goal

pub returns : goal.returns
returns c = added_follows c.args.placed c.args.found.items
