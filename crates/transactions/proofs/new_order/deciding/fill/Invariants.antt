use Rattle.std.proofs.Common.{◌≡◌, length}
use Rattle.transactions.specs.NewOrderStock.{AreNumbered, filled}
use Rattle.transactions.proofs.new_order.deciding.fill.Given as goal

abbrev pub invariant-loop-line : goal.invariant-loop-line
invariant-loop-line l = record {
  numbers : AreNumbered (length l.places) l.sold.items;
  same : filled l.sold.items l.places ≡ filled l.fn.sold.items l.fn.places;
}

abbrev pub decreases-loop-line : goal.decreases-loop-line
decreases-loop-line l = length l.sold.items
