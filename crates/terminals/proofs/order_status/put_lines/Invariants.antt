use Rattle.std.proofs.Common.{take}
use Rattle.files.specs.Written.{AddsFields}
use Rattle.terminals.specs.OrderStatus.{AreStatusLines}
use Rattle.terminals.proofs.order_status.put_lines.Given as goal

abbrev pub invariant-loop-line : goal.invariant-loop-line
invariant-loop-line l = AddsFields l.fn.row l.row (AreStatusLines (take l.line-index l.lines))
