use Rattle.std.proofs.Common.{◌≡◌, false, take}
use Rattle.std.specs.List.{list_any}
use Rattle.transactions.specs.NewOrder.{is_no_item}
use Rattle.transactions.proofs.new_order.deciding.lacks_item.Given as goal

abbrev pub invariant-loop-one : goal.invariant-loop-one
invariant-loop-one l = list_any is_no_item (take l.one-index l.found) ≡ false
