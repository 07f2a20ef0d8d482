use Rattle.transactions.proofs.PaymentSteps.{row_follows}
use Rattle.transactions.proofs.payment.gather_added.Goals as goal

pub returns : goal.returns
returns c = row_follows c.args.paid c.args.found.items
