use Rattle.std.proofs.Common.{map}
use Rattle.std.specs.List.{AllByRecursion}
use Rattle.std.specs.Map.{values_of}
use Rattle.schema.specs.Entries.{entry}
use Rattle.dataset.proofs.ranges.read_values.Given as goal

abbrev pub invariant-loop-row : goal.invariant-loop-row
invariant-loop-row g l = AllByRecursion g.T.Columns.in_range (values_of (map entry l.yielded))
