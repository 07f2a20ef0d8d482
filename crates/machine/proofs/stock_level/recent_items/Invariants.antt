use Rattle.std.proofs.Common.{◌≡◌, ◌++◌, map}
use Rattle.machine.specs.StockLevel as spec
use Rattle.machine.proofs.stock_level.recent_items.Given as goal

abbrev pub invariant-loop-row : goal.invariant-loop-row
invariant-loop-row g l = l.items.items ++ map (λ line. line.1.i_id) l.row-iterator ≡ spec.recent_items (g.T.Rows.tables l.fn.rows) l.fn.home l.fn.next
