use Rattle.std.proofs.Common.{◌≡◌, ◌++◌, map}
use Rattle.std.specs.List.{All, range_with_len}
use Rattle.std.specs.List.Sorted.{IsStrictlySortedBy}
use Rattle.std.specs.Map.{keys_of}
use Rattle.rows.specs.Keys.{line_cmp}
use Rattle.schema.specs.OrderRows.{line_key}
use Rattle.population.specs.Rows.{IsOpeningLine}
use Rattle.population.proofs.order_rows.add_lines.Given as goal

abbrev pub invariant-loop-place : goal.invariant-loop-place
invariant-loop-place l = record {
  keys : keys_of l.lines ≡ keys_of l.fn.lines ++ map (line_key l.order) (range_with_len 1 l.place);
  rows : All (λ e. IsOpeningLine l.scale l.now e.0 e.1) l.lines;
  ordered : IsStrictlySortedBy line_cmp (keys_of l.lines);
}
