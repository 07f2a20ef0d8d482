use Rattle.std.proofs.Common.{◌≡◌, drop}
use Rattle.machine.specs.NewOrder.{quantity_after, taken_from}
use Rattle.machine.proofs.new_order_lines.quantity_after.Given as goal

abbrev pub invariant-loop-line : goal.invariant-loop-line
invariant-loop-line l = quantity_after l.quantity (taken_from l.key (drop l.line-index l.lines)) ≡ quantity_after l.fn.quantity (taken_from l.key l.lines)
