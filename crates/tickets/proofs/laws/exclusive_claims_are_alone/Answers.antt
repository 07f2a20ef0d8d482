use Rattle.tickets.proofs.Committed as kept
use Rattle.tickets.proofs.laws.exclusive_claims_are_alone.Goals as goal

pub returns : goal.returns
returns c = kept.AreCommitted-alone
