use Rattle.std.proofs.Common.{◌≡◌, true, take}
use Rattle.std.specs.List.{list_all}
use Rattle.transactions.specs.NewOrder.{is_taken}
use Rattle.transactions.proofs.new_order.deciding.are_taken.Given as goal

abbrev pub invariant-loop-one : goal.invariant-loop-one
invariant-loop-one l = list_all is_taken (take l.one-index l.found) ≡ true
