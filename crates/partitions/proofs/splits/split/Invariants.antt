use Rattle.std.proofs.Common.{◌≡◌, ◌+◌, ◌*◌, ◌<◌, take}
use Rattle.partitions.specs.Splits.{chunk, AreLastFirst}
use Rattle.partitions.proofs.splits.split.Given as goal

abbrev pub invariant-loop-place : goal.invariant-loop-place
invariant-loop-place g l = record {
  below : l.place < l.fn.parts;
  split : AreLastFirst (λ place part. part.items ≡ chunk l.fn.each place l.fn.rows.items) (l.place + 1) l.fn.parts l.split.items;
  rest : l.rest.items ≡ take ((l.place + 1) * l.fn.each) l.fn.rows.items;
}

abbrev pub decreases-loop-place : goal.decreases-loop-place
decreases-loop-place g l = l.place
