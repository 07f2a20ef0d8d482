-- The world with the queues of all executors as one, and the invariant of a world.
use Rattle.std.specs.Prelude.{◌≡◌, ℕ, All, List, [], ◌++◌, length, map}
use Rattle.std.specs.List.{sum_by}
use Rattle.partitions.specs.Parts.{SharedTables}
use Rattle.range_moves.specs.Traffic.{IsLocatedWith}
use Rattle.world.specs.declared.flight.Envelope.{Envelope}
use Rattle.world.specs.declared.world.Parts.{Parts}
use Rattle.world.specs.declared.world.Core.{Core}
use Rattle.world.specs.Flights.{nothing}
use Rattle.world.specs.Envelopes.{IsOutgoing, IsTo, arrived_of, going_in, home_of_message, items_in, envelopes_out, messages_in, sent_in}
use Rattle.world.specs.Queues.{all_of, queue_of}
use Rattle.world.specs.Sound.{IsSoundWith}
use Rattle.world.specs.Shards.{HaveToWait, IsShardOf, waiting_in}

module _ {J : Type 0} where
  -- The world with the queues of all executors as one. The messages of waiting actions come before all others and the parked
  -- messages after them: they are in flight too.
  abbrev pub together : Core J → Parts J
  together w = record w.parts {
    inbox = waiting_in w.parts ++ (messages_in (all_of w.inboxes) ++ w.parked);
    outbox = items_in (all_of w.outboxes);
  }

  -- All envelopes, in inboxes and in outboxes.
  abbrev pub envelopes_of_all : Core J → List (Envelope J)
  envelopes_of_all w = all_of w.inboxes ++ envelopes_out (all_of w.outboxes)

  -- The number of arrivals that are to be sent.
  abbrev pub arrived_in : Core J → ℕ
  arrived_in w = sum_by arrived_of (all_of w.outboxes)

  -- Messages for slices go to executors that have the slice, are to get it, or recorded where it went. Parked messages wait for
  -- a slice that is on its way. The messages of moves satisfy `IsLocatedWith`.
  abbrev pub IsLocated : Core J → Type 0
  IsLocated w = IsLocatedWith 0 w.placements (going_in (envelopes_of_all w)) (sent_in (envelopes_of_all w)) (arrived_in w) (map home_of_message w.parked)

  -- ---- a world's invariant

  -- With the queues as one, everything in flight is sound. The lock table of each shard has exactly the actions that wait
  -- there, and each of them has to wait. Each executor has an inbox, with envelopes to it alone, and an outbox. Slices and the
  -- messages to them are located as they should be. Nothing is in hand.
  pub record IsSound (shared : SharedTables) (w : Core J) : Type 0 where
    pub all : IsSoundWith shared nothing (together w)
    pub shards : All (IsShardOf shared.scale.warehouses) w.parts.shards.items
    pub wait : All HaveToWait w.parts.shards.items
    pub warehouses : length w.placements.placements ≡ shared.scale.warehouses
    pub inboxes : length w.inboxes ≡ w.placements.executors
    pub outboxes : length w.outboxes ≡ w.placements.executors
    pub own : (executor : ℕ) → All (IsTo executor) (queue_of executor w.inboxes)
    pub outgoing : All (IsOutgoing w.placements.executors) (all_of w.outboxes)
    pub located : IsLocated w
    pub no_inbox : w.parts.inbox ≡ []
    pub no_outbox : w.parts.outbox ≡ []
