use Rattle.std.proofs.Common.{◌≡◌, ◌++◌, map}
use Rattle.slices.specs.SliceView.{part_in}
use Rattle.slices.proofs.cutting.whole.Given as goal

-- the first slices gave their parts, in order
abbrev pub invariant-loop-slice : goal.invariant-loop-slice
invariant-loop-slice g l = record {
  can_next : (goal.iterator-loop-slice g).can_next l.slice-iterator;
  finite : (goal.iterator-loop-slice g).is_finite l.slice-iterator;
  parts : l.parts.items ++ map part_in l.slice-iterator.rest.items ≡ map part_in l.fn.slices.items;
}
