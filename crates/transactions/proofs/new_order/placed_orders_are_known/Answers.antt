use Rattle.transactions.proofs.NewOrderKnown as law
use Rattle.transactions.proofs.new_order.placed_orders_are_known.Goals as goal

pub returns : goal.returns
returns c = law.placed_orders_are_known
