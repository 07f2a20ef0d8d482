use Rattle.std.proofs.Common.{◌≡◌, max}
use Rattle.std.specs.FinMap.{entries}
use Rattle.indexes.proofs.Latest.{most}
use Rattle.indexes.proofs.latest_orders.greatest_number.Given as goal

abbrev pub invariant-loop-key : goal.invariant-loop-key
invariant-loop-key g l =
    (goal.iterator-loop-key g).can_next l.key-iterator
    × (goal.iterator-loop-key g).is_finite l.key-iterator
    × (max l.number (most l.customer l.key-iterator) ≡ most l.customer (entries (g.T.Rows.tables l.rows).orders))
