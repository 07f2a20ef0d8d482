use Rattle.transactions.proofs.PaymentWorks as law
use Rattle.transactions.proofs.payment.gathered_payers_are_known.Goals as goal

pub returns : goal.returns
returns c = law.gathered_payers_are_known
