use Rattle.std.proofs.Common.{◌+◌}
use Rattle.schema.specs.OrderRows.{line_table}
use Rattle.partitions.proofs.Undelivered.{AreDatedBack}
use Rattle.partitions.proofs.delivery_rows.put_moments_back.Given as goal

abbrev pub invariant-loop-place : goal.invariant-loop-place
invariant-loop-place l = AreDatedBack l.order l.moments (l.place + 1) (line_table l.fn.lines) (line_table l.lines)
