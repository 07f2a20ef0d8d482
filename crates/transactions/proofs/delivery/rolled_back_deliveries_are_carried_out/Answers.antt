use Rattle.transactions.proofs.DeliveryCarriedOut as law
use Rattle.transactions.proofs.delivery.rolled_back_deliveries_are_carried_out.Goals as goal

pub returns : goal.returns
returns c = law.rolled_back_deliveries_are_carried_out
