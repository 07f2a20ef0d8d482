use Rattle.std.proofs.Common.{◌≡◌, ◌+◌, ◌++◌, length}
use Rattle.schema.specs.PackedLines.{numbered_from}
use Rattle.schema.proofs.numbered.Numbered.from_rows.Given as goal

-- with the rows to come, the lines are all, numbered from 1
abbrev pub invariant-loop-row : goal.invariant-loop-row
invariant-loop-row l = record {
  can_next : goal.iterator-loop-row.can_next l.row-iterator;
  finite : goal.iterator-loop-row.is_finite l.row-iterator;
  all : l.lines.items ++ numbered_from (length l.lines.items + 1) l.row-iterator.rest.items ≡ numbered_from 1 l.fn.rows.items;
  many : length l.lines.items + length l.row-iterator.rest.items ≡ length l.fn.rows.items;
}
