use Rattle.std.proofs.Common.{◌≡◌, ℕ, ◌+◌, ◌<◌, ◌≤◌, length, IsTrue}
use Rattle.std.specs.FinMap as table
use Rattle.rows.specs.declared.limits.TheConstants.{MOST_LINES}
use Rattle.schema.specs.OrderRows.{line_table, line_key, put_lines}
use Rattle.schema.proofs.order_lines.OrderLines.take_back.Given as goal

abbrev pub invariant-loop-was : goal.invariant-loop-was
invariant-loop-was l = record {
  few : length l.rest.items ≤ MOST_LINES;
  there : (n : ℕ) → n < length l.rest.items → IsTrue (table.contains_key (line_table l.self) (line_key l.order (1 + n)));
  same : put_lines l.order 1 l.rest.items (line_table l.self) ≡ put_lines l.order 1 l.fn.were.items (line_table l.fn.self);
}

abbrev pub decreases-loop-was : goal.decreases-loop-was
decreases-loop-was l = length l.rest.items
