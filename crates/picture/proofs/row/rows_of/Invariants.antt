use Rattle.std.proofs.Common.{◌≡◌, ◌+◌, ◌++◌, drop}
use Rattle.picture.specs.Rows.{rows_of}
use Rattle.picture.proofs.row.rows_of.Given as goal

abbrev pub invariant-loop-index : goal.invariant-loop-index
invariant-loop-index l = l.rows.items ++ rows_of l.log (l.index + 1) (drop l.index l.schedule) l.left ≡ rows_of l.log 1 l.schedule l.fn.outputs
