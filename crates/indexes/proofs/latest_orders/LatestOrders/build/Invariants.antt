use Rattle.std.specs.FinMap.{entries}
use Rattle.indexes.proofs.Latest.{AreRaised}
use Rattle.indexes.proofs.latest_orders.LatestOrders.build.Given as goal

abbrev pub invariant-loop-key : goal.invariant-loop-key
invariant-loop-key g l =
    (goal.iterator-loop-key g).can_next l.key-iterator
    × (goal.iterator-loop-key g).is_finite l.key-iterator
    × AreRaised (g.T.Rows.slot l.rows) (g.T.Rows.tables l.rows).scale.customers l.numbers.items l.key-iterator (entries (g.T.Rows.tables l.rows).orders)
