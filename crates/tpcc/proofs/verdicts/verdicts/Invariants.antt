-- The verdicts on the conditions so far.
use Rattle.std.proofs.Common.{◌≡◌, take}
use Rattle.tpcc.specs.Verdicts.{verdicts_of}
use Rattle.tpcc.proofs.verdicts.verdicts.Given as goal

abbrev pub invariant-loop-place : goal.invariant-loop-place
invariant-loop-place l = l.verdicts.items ≡ verdicts_of l.fresh 1 (take l.place l.answers)
