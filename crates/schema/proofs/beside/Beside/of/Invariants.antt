use Rattle.std.proofs.Common.{length}
use Rattle.std.specs.List.Sorted.{IsStrictlySortedBy}
use Rattle.std.specs.Map.{keys_of}
use Rattle.rows.specs.Keys.{order_cmp}
use Rattle.schema.specs.RowsLeft.{SameFrom, rows_left}
use Rattle.schema.proofs.beside.Beside.of.Given as goal

-- the rows that are left ascend, and from the key on they are found as before
abbrev pub invariant-loop-self : goal.invariant-loop-self
invariant-loop-self g l = record {
  sorted : IsStrictlySortedBy order_cmp (keys_of (rows_left l.self-inside.first l.self-inside.others));
  left : SameFrom l.key l.fn.self (rows_left l.self-inside.first l.self-inside.others);
}

abbrev pub decreases-loop-self : goal.decreases-loop-self
decreases-loop-self g l = length (rows_left l.self-inside.first l.self-inside.others)
