use Rattle.std.proofs.Common.{◌≡◌, ◌++◌, flat_map, take}
use Rattle.terminals.specs.NewOrder.{ordered_line_fields}
use Rattle.terminals.proofs.new_order.put_lines.Given as goal

abbrev pub invariant-loop-line : goal.invariant-loop-line
invariant-loop-line l = l.row ≡ l.fn.row ++ flat_map ordered_line_fields (take l.line-index l.lines)
