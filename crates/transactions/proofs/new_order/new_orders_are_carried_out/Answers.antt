use Rattle.transactions.proofs.NewOrderCarriedOut as law
use Rattle.transactions.proofs.new_order.new_orders_are_carried_out.Goals as goal

pub returns : goal.returns
returns c = law.new_orders_are_carried_out
