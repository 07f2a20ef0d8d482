use Rattle.std.proofs.Common.{length, vec_len}
use Rattle.slices.proofs.Cuts.{AreCutSoFar}
use Rattle.slices.proofs.HomeBoxes.{AreFirstBoxes}
use Rattle.slices.proofs.cutting.cut.Given as goal

-- the parts that are left have the boxes that are left, and those of the last warehouses are slices
abbrev pub invariant-loop-partition : goal.invariant-loop-partition
invariant-loop-partition g l = record {
  so_far : AreCutSoFar l.fn.tables l.parts.items l.slices.items;
  boxes : AreFirstBoxes l.fn.tables (length l.parts.items) l.boxes.items;
}

abbrev pub decreases-loop-partition : goal.decreases-loop-partition
decreases-loop-partition g l = vec_len l.parts
