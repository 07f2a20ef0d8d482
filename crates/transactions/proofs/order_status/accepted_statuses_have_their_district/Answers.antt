use Rattle.transactions.proofs.OrderStatusWorks as law
use Rattle.transactions.proofs.order_status.accepted_statuses_have_their_district.Goals as goal

pub returns : goal.returns
returns c = law.accepted_statuses_have_their_district
