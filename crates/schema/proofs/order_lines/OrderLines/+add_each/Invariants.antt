use Rattle.std.proofs.Common.{length}
use Rattle.schema.proofs.order_lines.OrderLines.+add_each.Given as goal

abbrev pub decreases-add_each : goal.decreases-add_each
decreases-add_each l = length l.rows.now.items
