use Rattle.std.proofs.Common.{◌-◌, length}
use Rattle.files.specs.Source.{KeepsAhead, at_hand}
use Rattle.files.proofs.source.Source.three_bytes.Given as goal

abbrev pub invariant-loop-self : goal.invariant-loop-self
invariant-loop-self g l =
    KeepsAhead g.R.Input.remaining l.fn.self l.self
    × (g.R.Input.lasts l.fn.self.reader → g.R.Input.lasts l.self.reader)

abbrev pub decreases-loop-self : goal.decreases-loop-self
decreases-loop-self g l = 3 - length (at_hand l.self)
