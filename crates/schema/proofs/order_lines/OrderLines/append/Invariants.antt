use Rattle.std.proofs.Common.{◌≡◌, length}
use Rattle.std.specs.FinMap.{get}
use Rattle.std.specs.List.Sorted.{IsStrictlySortedBy}
use Rattle.std.specs.Map.{keys_of}
use Rattle.std.specs.Option.{option_or}
use Rattle.rows.specs.declared.keys.OrderLineKey.{OrderLineKey}
use Rattle.rows.specs.Keys.{order_cmp}
use Rattle.schema.specs.OrderRows.{line_table}
use Rattle.schema.specs.PackedLines.{all_lines}
use Rattle.schema.proofs.order_lines.OrderLines.append.Given as goal

abbrev pub invariant-loop-order : goal.invariant-loop-order
invariant-loop-order l = record {
  ordered : IsStrictlySortedBy order_cmp (keys_of l.orders.entries);
  moved : (q : OrderLineKey) → option_or (get (line_table (all_lines l.orders.entries)) q) (get (line_table l.self) q) ≡ option_or (get (line_table l.fn.others) q) (get (line_table l.fn.self) q);
}

abbrev pub decreases-loop-order : goal.decreases-loop-order
decreases-loop-order l = length l.orders.entries
