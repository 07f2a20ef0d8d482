use Rattle.tickets.proofs.Committed as kept
use Rattle.tickets.proofs.laws.order_does_not_matter.Goals as goal

pub returns : goal.returns
returns c = λ here tables slice claims others. kept.AreCommitted-permutation here tables slice claims others
