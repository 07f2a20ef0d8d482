use Rattle.std.proofs.Common.{◌-◌, ◌≤◌, length}
use Rattle.files.specs.Marks.{ArePlain, Reports}
use Rattle.files.proofs.marks.Marks.next.Given as goal

abbrev pub invariant-loop-self : goal.invariant-loop-self
invariant-loop-self l = (l.at ≤ l.place) × ArePlain l.bytes l.at l.place × Reports l.bytes l.place l.self

abbrev pub decreases-loop-self : goal.decreases-loop-self
decreases-loop-self l = length l.bytes - l.self.end
