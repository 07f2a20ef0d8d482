use Rattle.std.proofs.Common.{◌≡◌, ◌∷◌, take, map}
use Rattle.transactions.specs.NewOrder.{taking}
use Rattle.transactions.proofs.new_order.phases.stock_works.Given as goal

abbrev pub invariant-loop-group : goal.invariant-loop-group
invariant-loop-group l = l.works.items ≡ map (taking l.given.order) (l.given.first ∷ take l.group-index l.others)
