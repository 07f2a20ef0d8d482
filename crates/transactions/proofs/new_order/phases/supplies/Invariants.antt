use Rattle.std.proofs.Common.{◌≡◌, take}
use Rattle.groups.specs.NewOrder.{supplies_of}
use Rattle.transactions.proofs.new_order.phases.supplies.Given as goal

abbrev pub invariant-loop-line : goal.invariant-loop-line
invariant-loop-line l = l.groups.items ≡ supplies_of (take l.line-index l.lines)
