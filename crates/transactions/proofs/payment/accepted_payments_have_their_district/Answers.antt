use Rattle.transactions.proofs.PaymentWorks as law
use Rattle.transactions.proofs.payment.accepted_payments_have_their_district.Goals as goal

pub returns : goal.returns
returns c = law.accepted_payments_have_their_district
