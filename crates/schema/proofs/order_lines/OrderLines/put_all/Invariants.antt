use Rattle.std.proofs.Common.{◌≡◌, length}
use Rattle.std.specs.FinMap.{get}
use Rattle.std.specs.Option.{option_or}
use Rattle.rows.specs.declared.keys.OrderLineKey.{OrderLineKey}
use Rattle.schema.specs.OrderRows.{line_table}
use Rattle.schema.specs.PackedLines.{with_keys}
use Rattle.schema.proofs.order_lines.OrderLines.put_all.Given as goal

abbrev pub invariant-loop-number : goal.invariant-loop-number
invariant-loop-number l = (q : OrderLineKey) → option_or (get (line_table (with_keys l.order l.rest.items)) q) (get (line_table l.self) q)
    ≡ option_or (get (line_table (with_keys l.order l.fn.rows.items)) q) (get (line_table l.fn.self) q)

abbrev pub decreases-loop-number : goal.decreases-loop-number
decreases-loop-number l = length l.rest.items
