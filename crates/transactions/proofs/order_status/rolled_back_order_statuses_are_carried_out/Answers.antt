use Rattle.transactions.proofs.OrderStatusCarriedOut as law
use Rattle.transactions.proofs.order_status.rolled_back_order_statuses_are_carried_out.Goals as goal

pub returns : goal.returns
returns c = law.rolled_back_order_statuses_are_carried_out
