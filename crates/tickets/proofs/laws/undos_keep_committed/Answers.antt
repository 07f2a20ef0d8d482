use Rattle.tickets.proofs.Committed as kept
use Rattle.tickets.proofs.laws.undos_keep_committed.Goals as goal

pub returns : goal.returns
returns c = λ here claim old new. kept.write_keeps here claim _ old new
