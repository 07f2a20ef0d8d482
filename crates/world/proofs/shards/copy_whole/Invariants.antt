use Rattle.std.proofs.Common.{◌≡◌, map, take}
use Rattle.world.specs.Shards.{part_of}
use Rattle.world.proofs.shards.copy_whole.Given as goal

-- the parts of the first shards' slices were copied, in order
abbrev pub invariant-loop-shard : goal.invariant-loop-shard
invariant-loop-shard g l = l.parts.items ≡ map part_of (take l.shard-index l.shards)
