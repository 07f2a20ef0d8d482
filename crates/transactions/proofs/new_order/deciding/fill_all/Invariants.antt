use Rattle.std.proofs.Common.{◌≡◌, length}
use Rattle.transactions.specs.NewOrder.{all_sold}
use Rattle.transactions.specs.NewOrderStock.{AreNumbered, filled}
use Rattle.transactions.proofs.new_order.deciding.fill_all.Given as goal

abbrev pub invariant-loop-one : goal.invariant-loop-one
invariant-loop-one l = record {
  numbers : AreNumbered (length l.places) (all_sold l.found.items);
  same : filled (all_sold l.found.items) l.places ≡ filled (all_sold l.fn.found.items) l.fn.places;
}

abbrev pub decreases-loop-one : goal.decreases-loop-one
decreases-loop-one l = length l.found.items
