use Rattle.files.specs.Marks.{ArePlain}
use Rattle.files.proofs.marks.next_of_few.Given as goal

abbrev pub invariant-loop-place : goal.invariant-loop-place
invariant-loop-place l = ArePlain l.bytes l.at l.place
