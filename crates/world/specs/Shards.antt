-- The shards of a world: the slice of each warehouse, and the actions that wait there.
use Rattle.std.specs.Prelude.{◌≡◌, ℕ, ◌+◌, ◌-◌, ◌≤◌, List, [], All, Some, length, map}
use Rattle.std.specs.List.{flat_map, slice_get}
use Rattle.local_locks.specs.Asking.{StillWaits}
use Rattle.partitions.specs.Parts.{Part}
use Rattle.slices.specs.SliceView.{SliceView, part_in}
use Rattle.transactions.specs.declared.shard.Parked.{Parked}
use Rattle.transactions.specs.Shards.{IsShard, ShardView, shard_view}
use Rattle.world.specs.declared.flight.Act.{Act as AnyAct}
use Rattle.world.specs.declared.flight.Carried.{Carried}
use Rattle.world.specs.declared.flight.Message.{Message}
use Rattle.world.specs.declared.flight.Message.TheVariants.{Act}
use Rattle.world.specs.declared.world.Parts.{Parts}

module _ {J : Type 0} where
  -- A waiting action, as it was when it asked.
  abbrev pub act_of : Parked (Carried J) → AnyAct J
  act_of p = record { place = p.by.place; age = p.by.age; slot = p.carried.slot; work = p.work; flow = p.carried.flow }

  -- Its message.
  abbrev pub message_of : Parked (Carried J) → Message J
  message_of p = Act (act_of p)

  -- The messages of the actions that wait at a shard, in the order in which they asked.
  abbrev pub waiting_at : ShardView (Carried J) → List (Message J)
  waiting_at s = map message_of s.parked

  -- Those at all shards, one shard after another.
  abbrev pub waiting_in : Parts J → List (Message J)
  waiting_in w = flat_map (λ list. list) (map waiting_at w.shards.items)

  abbrev pub slice_of : ShardView (Carried J) → SliceView
  slice_of s = s.slice

  -- The rows of a shard.
  abbrev pub part_of : ShardView (Carried J) → Part
  part_of s = part_in s.slice

  -- The slices of all warehouses, in order.
  abbrev pub slices_in : Parts J → List SliceView
  slices_in w = map slice_of w.shards.items

  -- The actions that wait in the slice's lock table are those parked at the shard, and each can do its work in the slice.
  abbrev pub IsShardOf : ℕ → ShardView (Carried J) → Type 0
  IsShardOf warehouses s = IsShard warehouses s.slice s.parked

  -- Every action that waits there has to: it has conflicting holders, and all of them are younger.
  abbrev pub HaveToWait : ShardView (Carried J) → Type 0
  HaveToWait s = All (StillWaits s.slice.holdings) s.slice.waiters

  -- The outbox has room for the reports of all actions that wait at this warehouse.
  abbrev pub HasRoomFor : ℕ → Parts J → Type 0
  HasRoomFor home w = (s : ShardView (Carried J)) → slice_get w.shards.items (home - 1) ≡ Some s → length w.outbox + length s.parked ≤ 4096

  -- The shard of a slice in which no action waits.
  abbrev pub shard_of : SliceView → ShardView (Carried J)
  shard_of slice = shard_view slice []

-- No action waits in the slice's lock table.
abbrev pub NobodyWaitsIn : SliceView → Type 0
NobodyWaitsIn slice = slice.waiters ≡ []
