use Rattle.tickets.proofs.Committed as kept
use Rattle.tickets.proofs.laws.only_what_is_here_counts.Goals as goal

pub returns : goal.returns
returns c = λ here tables next old new claims. kept.AreCommitted-same here tables next old new claims
