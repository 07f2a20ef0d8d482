-- The lines so far are written or in the buffer, and the others are left.
use Rattle.std.proofs.Common.{◌≡◌, ℕ, List, ◌++◌, length}
use Rattle.files.specs.Sending.{Sends}
use Rattle.files.specs.Written.{csv_text}
use Rattle.terminals.specs.LinesLeft.{lines_left}
use Rattle.terminals.specs.LockChanges.{AreLines, Line, lines}
use Rattle.terminals.proofs.outputs.write_outputs.Given as goal

abbrev pub invariant-loop-line : goal.invariant-loop-line
invariant-loop-line g l = record {
  so_far : (rows : List (List (List ℕ))) × (written : List Line) × AreLines l.log written rows × (written ++ lines_left l.left ≡ lines 0 l.reported l.changes)
      × Sends (g.W.Write.contents l.fn.sink) (g.W.Write.contents l.sink) (csv_text rows) l.writer.text;
  same : l.left.outputs.now ≡ l.reported;
}

abbrev pub decreases-loop-line : goal.decreases-loop-line
decreases-loop-line g l = length (lines_left l.left)
