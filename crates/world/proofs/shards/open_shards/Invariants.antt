use Rattle.std.proofs.Common.{◌≡◌, ◌++◌, map}
use Rattle.std.specs.Prelude.{All}
use Rattle.world.specs.Shards.{IsShardOf, NobodyWaitsIn, shard_of}
use Rattle.world.proofs.shards.open_shards.Given as goal

-- the shards of the first slices are made, and the others follow
abbrev pub invariant-loop-slice : goal.invariant-loop-slice
invariant-loop-slice g l = record {
  can_next : (goal.iterator-loop-slice g).can_next l.slice-iterator;
  finite : (goal.iterator-loop-slice g).is_finite l.slice-iterator;
  shards : l.shards.items ++ map shard_of l.slice-iterator.rest.items ≡ map shard_of l.fn.slices.items;
  fine : All (IsShardOf g.J.GroupNames.warehouses) l.shards.items;
  none : All NobodyWaitsIn l.slice-iterator.rest.items;
}
