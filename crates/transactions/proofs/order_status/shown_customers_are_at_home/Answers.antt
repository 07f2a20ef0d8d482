use Rattle.transactions.proofs.OrderStatusCarriedOut as law
use Rattle.transactions.proofs.order_status.shown_customers_are_at_home.Goals as goal

pub returns : goal.returns
returns c = law.shown_customers_are_at_home
