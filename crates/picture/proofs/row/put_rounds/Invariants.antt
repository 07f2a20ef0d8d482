use Rattle.std.proofs.Common.{◌≡◌, ◌++◌, drop}
use Rattle.picture.specs.Rows.{rows_in_rounds, after_rounds}
use Rattle.picture.proofs.row.put_rounds.Given as goal

abbrev pub invariant-loop-index : goal.invariant-loop-index
invariant-loop-index l =
    (l.rows.items ++ rows_in_rounds l.log (drop l.index l.outputs) ≡ l.initial.rows.items ++ rows_in_rounds l.log l.outputs)
    × (after_rounds (drop l.index l.outputs) ≡ after_rounds l.outputs)
