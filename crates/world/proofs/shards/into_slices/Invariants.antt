use Rattle.std.proofs.Common.{◌≡◌, ◌++◌, map}
use Rattle.world.specs.Shards.{slice_of}
use Rattle.world.proofs.shards.into_slices.Given as goal

-- the slices of the first shards are out, and the others follow
abbrev pub invariant-loop-shard : goal.invariant-loop-shard
invariant-loop-shard g l = record {
  can_next : (goal.iterator-loop-shard g).can_next l.shard-iterator;
  finite : (goal.iterator-loop-shard g).is_finite l.shard-iterator;
  slices : l.slices.items ++ map slice_of l.shard-iterator.rest.items ≡ map slice_of l.fn.shards.items;
}
