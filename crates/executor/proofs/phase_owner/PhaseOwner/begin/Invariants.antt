use Rattle.std.proofs.Common.{[], ◌∷◌}
use Rattle.executor.specs.Carrying.{agreed_phase_of}
use Rattle.executor.proofs.phase_owner.PhaseOwner.begin.Given as goal

-- the round is about the transaction's phase
abbrev pub ghosts-convene : goal.ghosts-convene
ghosts-convene g a = record { offset = []; topic = agreed_phase_of a._from.now ∷ [] }
