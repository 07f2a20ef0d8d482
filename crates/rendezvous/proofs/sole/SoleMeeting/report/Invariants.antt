use Rattle.std.proofs.Common.{[], ◌∷◌}
use Rattle.rendezvous.proofs.sole.SoleMeeting.report.Given as goal

-- the place that sits down is the one that reports
abbrev pub ghosts-sit : goal.ghosts-sit
ghosts-sit g a = record { offset = a._place ∷ []; topic = [] }

abbrev pub ghosts-tell : goal.ghosts-tell
ghosts-tell g a = record { offset = a.slot ∷ []; topic = [] }
