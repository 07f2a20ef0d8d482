use Rattle.std.proofs.Common.{◌≡◌, replicate, None}
use Rattle.transactions.proofs.new_order.deciding.put_in_order.Given as goal

abbrev pub invariant-loop : goal.invariant-loop
invariant-loop l = l.places.items ≡ replicate l.counter None
