use Rattle.tickets.proofs.Committed as kept
use Rattle.tickets.proofs.laws.rest_is_committed.Goals as goal

pub returns : goal.returns
returns c = kept.rest_is_committed
