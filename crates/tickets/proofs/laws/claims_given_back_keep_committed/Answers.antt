use Rattle.tickets.proofs.Committed as kept
use Rattle.tickets.proofs.laws.claims_given_back_keep_committed.Goals as goal

pub returns : goal.returns
returns c = kept.give_back_keeps
