use Rattle.std.proofs.Common.{◌≡◌, ◌++◌, map}
use Rattle.machine.specs.OrderStatus as spec
use Rattle.machine.proofs.order_status.lines_shown.Given as goal

abbrev pub invariant-loop-row : goal.invariant-loop-row
invariant-loop-row g l = l.lines.items ++ map (λ line. spec.status_line line.1) l.row-iterator ≡ spec.lines_shown (g.T.Rows.tables l.fn.tables) l.fn.order
