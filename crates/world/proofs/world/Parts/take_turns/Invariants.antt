use Rattle.std.proofs.Common.{◌≡◌, List, length}
use Rattle.std.specs.Prelude.{All}
use Rattle.std.specs.List.{sum_by}
use Rattle.slices.specs.SliceView.{AreSlicesOf}
use Rattle.transactions.specs.declared.shard.Turned.{Turned}
use Rattle.transactions.specs.Shards.{ShardView}
use Rattle.world.specs.declared.flight.Carried.{Carried}
use Rattle.world.specs.Events.{TurnsFollow}
use Rattle.world.specs.Shards.{HasRoomFor, IsShardOf, slices_in}
use Rattle.world.proofs.world.Parts.take_turns.Given as goal

-- some have had their turns, and there is room for the reports of all others
abbrev pub invariant-loop-turned : goal.invariant-loop-turned
invariant-loop-turned g l = record {
  home : l.home ≡ l.fn.home;
  catalog : l.self.catalog ≡ l.fn.self.catalog;
  slices : AreSlicesOf l.self.catalog (slices_in l.self);
  shards : All (IsShardOf g.J.GroupNames.warehouses) l.self.shards.items;
  room : HasRoomFor l.home l.self;
  follow : (turned : List (Turned g.row.J.Denot (Carried g.row.J.Denot))) × TurnsFollow l.home turned l.fn.self l.self;
}

-- one more has had its turn, and waits no more
abbrev pub decreases-loop-turned : goal.decreases-loop-turned
decreases-loop-turned g l = sum_by (λ (s : ShardView (Carried g.row.J.Denot)). length s.parked) l.self.shards.items
