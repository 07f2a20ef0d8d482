use Rattle.partitions.proofs.Cuts.{IsCutTo}
use Rattle.partitions.proofs.cutting.cut.Given as goal

abbrev pub invariant-loop-place : goal.invariant-loop-place
invariant-loop-place l = IsCutTo l.fn.tables l.place l.homes l.parts.items
