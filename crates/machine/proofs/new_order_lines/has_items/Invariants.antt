use Rattle.std.proofs.Common.{◌≡◌, drop, is_some}
use Rattle.machine.specs.NewOrder.{items_found}
use Rattle.machine.proofs.new_order_lines.has_items.Given as goal

abbrev pub invariant-loop-line : goal.invariant-loop-line
invariant-loop-line l = is_some (items_found l.tables (drop l.line-index l.lines)) ≡ is_some (items_found l.tables l.lines)
