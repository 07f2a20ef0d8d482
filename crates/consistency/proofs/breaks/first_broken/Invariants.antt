-- The conditions so far hold, but for the one that is not asked for.
use Rattle.consistency.proofs.FirstBroken.{HoldBelow}
use Rattle.consistency.proofs.breaks.first_broken.Given as goal

abbrev pub invariant-loop-place : goal.invariant-loop-place
invariant-loop-place l = HoldBelow l.tables l.place
