use Rattle.std.proofs.Common.{length, ◌-◌}
use Rattle.files.specs.Marks.{Reports}
use Rattle.files.proofs.Lines.{IsCutSoFar}
use Rattle.files.proofs.line.cut_line.Given as goal

abbrev pub invariant-loop-to : goal.invariant-loop-to
invariant-loop-to l = Reports l.bytes l.at l.marks × IsCutSoFar l.bytes l.spans.items l.from l.at

abbrev pub decreases-loop-to : goal.decreases-loop-to
decreases-loop-to l = length l.bytes - l.at
