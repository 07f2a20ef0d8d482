use Rattle.std.proofs.Common.{◌≡◌, count_by, take}
use Rattle.machine.specs.StockLevel as spec
use Rattle.machine.proofs.stock_level.count_short.Given as goal

abbrev pub invariant-loop-item : goal.invariant-loop-item
invariant-loop-item g l = l.count ≡ count_by (spec.is_short (g.T.Rows.tables l.rows) l.warehouse l.threshold) (take l.item-index l.items)
