use Rattle.tickets.proofs.Committed as kept
use Rattle.tickets.proofs.laws.claims_elsewhere_say_nothing.Goals as goal

pub returns-clause-claims : goal.returns-clause-claims
returns-clause-claims c = λ here tables slice claim claims away.
    (kept.AreCommitted-elsewhere here tables slice claim claims away, kept.AreCommitted-without here tables slice claim claims away)

pub returns-clause-steps : goal.returns-clause-steps
returns-clause-steps c = kept.elsewhere_keeps
