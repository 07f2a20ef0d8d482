use Rattle.transactions.proofs.PaymentRolledBack as law
use Rattle.transactions.proofs.payment.rolled_back_payments_are_carried_out.Goals as goal

pub returns : goal.returns
returns c = law.rolled_back_payments_are_carried_out
