use Rattle.std.proofs.Common.{◌≡◌, ◌++◌, drop}
use Rattle.picture.specs.Marks.{all_marks}
use Rattle.picture.proofs.row_marks.marks_of.Given as goal

abbrev pub invariant-loop-at : goal.invariant-loop-at
invariant-loop-at l =
    l.marks.items ++ all_marks l.lanes.sessions.items l.lanes.executors l.at (drop l.at l.rows) ≡ all_marks l.lanes.sessions.items l.lanes.executors 0 l.rows
