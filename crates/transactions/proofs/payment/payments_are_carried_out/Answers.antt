use Rattle.transactions.proofs.PaymentCarriedOut as law
use Rattle.transactions.proofs.payment.payments_are_carried_out.Goals as goal

pub returns : goal.returns
returns c = law.payments_are_carried_out
