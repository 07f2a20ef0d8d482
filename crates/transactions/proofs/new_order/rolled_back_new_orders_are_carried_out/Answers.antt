use Rattle.transactions.proofs.NewOrderCarriedOut as law
use Rattle.transactions.proofs.new_order.rolled_back_new_orders_are_carried_out.Goals as goal

pub returns : goal.returns
returns c = law.rolled_back_new_orders_are_carried_out
