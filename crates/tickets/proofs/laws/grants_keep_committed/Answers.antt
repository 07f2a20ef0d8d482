use Rattle.tickets.proofs.Committed as kept
use Rattle.tickets.proofs.laws.grants_keep_committed.Goals as goal

pub returns : goal.returns
returns c = kept.grant_keeps
