-- The slices that are left are to be opened.
use Rattle.std.specs.Prelude.{All}
use Rattle.engine.specs.Opening.{IsToOpen}
use Rattle.engine.proofs.opening.open_shards.Given as goal

abbrev pub invariant-loop-slice : goal.invariant-loop-slice
invariant-loop-slice g l = record {
  can_next : (goal.iterator-loop-slice g).can_next l.slice-iterator;
  finite : (goal.iterator-loop-slice g).is_finite l.slice-iterator;
  left : All (IsToOpen g.J.LogNames.opening) l.slice-iterator.rest.items;
}
