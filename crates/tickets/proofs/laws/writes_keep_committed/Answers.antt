use Rattle.tickets.proofs.Committed as kept
use Rattle.tickets.proofs.laws.writes_keep_committed.Goals as goal

pub returns : goal.returns
returns c = kept.write_keeps
