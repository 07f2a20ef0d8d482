-- What one event may change: everything that is not mentioned here stays as it was.
use Rattle.std.specs.Prelude.{◌≡◌, ◌≢◌, ◌⊎◌, ℕ, ◌-◌, ◌≤◌, List, [], ◌∷◌, ◌++◌, length}
use Rattle.std.specs.List.{slice_get}
use Rattle.requests.specs.declared.request.Request.{Request}
use Rattle.commit_log.specs.declared.entry.Entry.{Entry}
use Rattle.history.specs.declared.event.Event.{Event}
use Rattle.history.specs.declared.event.Event.TheVariants.{Submit, Order, Take, Send}
use Rattle.history.specs.declared.event.EventAnswer.{EventAnswer}
use Rattle.history.specs.declared.event.EventAnswer.TheVariants.{Nothing}
use Rattle.range_moves.specs.declared.placement.Found.TheVariants.{Here}
use Rattle.range_moves.specs.declared.order.MoveOrder.{MoveOrder}
use Rattle.range_moves.specs.declared.order.Moving.TheVariants as moving
use Rattle.range_moves.specs.Placements.{found_by, placement_of}
use Rattle.world.specs.declared.flight.Item.{Item}
use Rattle.world.specs.declared.flight.Item.TheVariants as item
use Rattle.world.specs.declared.flight.Envelope.{Envelope}
use Rattle.world.specs.declared.flight.Load.{Load}
use Rattle.world.specs.declared.flight.Load.TheVariants.{Work, Move}
use Rattle.world.specs.declared.flight.Outgoing.{Outgoing}
use Rattle.world.specs.declared.flight.Outgoing.TheVariants as outgoing
use Rattle.world.specs.declared.world.Core.{Core}
use Rattle.world.specs.Following.{entry_of}
use Rattle.world.specs.Happening.{begins_at}
use Rattle.world.specs.Envelopes.{home_of_message, envelope, parked_for}
use Rattle.world.specs.Queues.{queue_of}

-- ---- queues

-- The number of queues and every queue but this executor's are unchanged.
pub record OthersStay {X : Type 0} (executor : ℕ) (old new : List (List X)) : Type 0 where
  pub many : length new ≡ length old
  pub others : (other : ℕ) → other ≢ executor → queue_of other new ≡ queue_of other old

-- These items are appended to this executor's queue, and every other queue is unchanged.
pub record HasMore {X : Type 0} (executor : ℕ) (more : List X) (old new : List (List X)) : Type 0 where
  pub here : queue_of executor new ≡ queue_of executor old ++ more
  pub rest : OthersStay executor old new

-- This item is removed from the front of this executor's queue, and every other queue is unchanged.
pub record HasLost {X : Type 0} (executor : ℕ) (first : X) (old new : List (List X)) : Type 0 where
  pub here : queue_of executor old ≡ first ∷ queue_of executor new
  pub rest : OthersStay executor old new

-- This item is removed from the front of this executor's queue, these are appended, and every other queue is unchanged.
pub record HasTurned {X : Type 0} (executor : ℕ) (first : X) (more : List X) (old new : List (List X)) : Type 0 where
  pub left : List X
  pub was : queue_of executor old ≡ first ∷ left
  pub now : queue_of executor new ≡ left ++ more
  pub rest : OthersStay executor old new

module _ {J : Type 0} where
  -- ---- a submission

  -- The desk changes, and at most one envelope is appended to the inbox of the executor where the request begins.
  pub record SubmitChanges (asked : Request) (old new : Core J) : Type 0 where
    pub more : List (Envelope J)
    pub one : length more ≤ 1
    pub inbox : HasMore (begins_at asked old) more old.inboxes new.inboxes
    pub rest : new ≡ record old { parts = record old.parts { desk = new.parts.desk }; inboxes = new.inboxes }

  -- ---- a move is ordered

  -- The number of awaited reports changes, and the order is appended to the inbox of its destination.
  pub record OrderChanges (order : MoveOrder) (old new : Core J) : Type 0 where
    pub inbox : HasMore order.to (envelope order.to (Move (moving.Order order)) ∷ []) old.inboxes new.inboxes
    pub rest : new ≡ record old { placements = record old.placements { awaited = new.placements.awaited }; inboxes = new.inboxes }

  -- ---- an envelope is taken

  -- The envelope is about this warehouse: the warehouse is the home of its message, the subject of its fetch or parcel, or in
  -- the range of its order.
  abbrev pub IsAbout : Load J → ℕ → Type 0
  IsAbout (Work message) w_id = w_id ≡ home_of_message message
  IsAbout (Move (moving.Order order)) w_id = (order.lo ≤ w_id) × (w_id ≤ order.hi)
  IsAbout (Move (moving.Fetch moved to)) w_id = w_id ≡ moved
  IsAbout (Move (moving.Parcel moved)) w_id = w_id ≡ moved

  -- The shard of this warehouse is unchanged: its slice with rows, claims and waiters, and the actions parked there.
  abbrev pub IsShardAsBefore : ℕ → Core J → Core J → Type 0
  IsShardAsBefore w_id old new = slice_get new.parts.shards.items (w_id - 1) ≡ slice_get old.parts.shards.items (w_id - 1)

  -- Everything about this warehouse is unchanged: its shard, its placement, and the messages parked for it.
  pub record IsAsBefore (w_id : ℕ) (old new : Core J) : Type 0 where
    pub shard : IsShardAsBefore w_id old new
    pub placement : placement_of new.placements w_id ≡ placement_of old.placements w_id
    pub parked : parked_for w_id new.parked ≡ parked_for w_id old.parked

  -- The first envelope of the executor's own inbox is removed, and its own outbox may get more. The shard of a warehouse whose
  -- slice the executor does not have is unchanged. So is everything about a warehouse that the envelope is not about.
  pub record TakeChanges (executor : ℕ) (old new : Core J) : Type 0 where
    pub taken : Envelope J
    pub more : List (Outgoing J)
    pub inbox : HasLost executor taken old.inboxes new.inboxes
    pub outbox : HasMore executor more old.outboxes new.outboxes
    pub elsewhere : (w_id : ℕ) → 1 ≤ w_id → found_by old.placements executor w_id ≢ Here → IsShardAsBefore w_id old new
    pub others : (w_id : ℕ) → 1 ≤ w_id → ¬ IsAbout taken.load w_id → IsAsBefore w_id old new
    pub many : length new.parts.shards.items ≡ length old.parts.shards.items
    pub rest : new
        ≡ record old {
          parts = record old.parts { shards = new.parts.shards };
          placements = record old.placements { placements = new.placements.placements };
          parked = new.parked;
          inboxes = new.inboxes;
          outboxes = new.outboxes;
        }

  -- ---- an outbox entry is sent

  -- The envelope is appended to the inbox of its executor, and nothing more is to be sent; or no inbox changes, and the
  -- envelope is to be sent again.
  abbrev pub Comes : Envelope J → List (Outgoing J) → Core J → Core J → Type 0
  Comes l more old new = (HasMore l.to (l ∷ []) old.inboxes new.inboxes × (more ≡ [])) ⊎ ((new.inboxes ≡ old.inboxes) × (more ≡ outgoing.Envelope l ∷ []))

  -- Only a commit changes the log, if at all: it appends its own entry.
  abbrev pub MayLog : Item J → List Entry → List Entry → Type 0
  MayLog (item.Commit commit) old new = (new ≡ old) ⊎ (new ≡ old ++ entry_of commit ∷ [])
  MayLog (item.Push message) old new = new ≡ old
  MayLog (item.Report report) old new = new ≡ old
  MayLog (item.Ended slot) old new = new ≡ old
  MayLog (item.Reply recorded) old new = new ≡ old

  -- What changes besides the outbox: with an envelope only an inbox, with an item only the desk and the log, and with the
  -- report of an arrived slice only the number of awaited reports.
  abbrev pub ChangesBySent : Outgoing J → List (Outgoing J) → Core J → Core J → Type 0
  ChangesBySent (outgoing.Envelope l) more old new = Comes l more old new × (new ≡ record old { inboxes = new.inboxes; outboxes = new.outboxes })
  ChangesBySent (outgoing.Item i) more old new =
      MayLog i old.parts.log new.parts.log × (new ≡ record old { parts = record old.parts { desk = new.parts.desk; log = new.parts.log }; outboxes = new.outboxes })
  ChangesBySent outgoing.Arrived more old new = (more ≡ []) × (new ≡ record old { placements = record old.placements { awaited = new.placements.awaited }; outboxes = new.outboxes })

  -- The first entry of the executor's own outbox is removed, and more may be appended to it; no other outbox changes. Besides,
  -- only what the sent entry allows changes.
  pub record SendChanges (executor : ℕ) (old new : Core J) : Type 0 where
    pub sent : Outgoing J
    pub more : List (Outgoing J)
    pub outbox : HasTurned executor sent more old.outboxes new.outboxes
    pub rest : ChangesBySent sent more old new

  -- ---- one event

  -- What an event may change.
  abbrev pub MayChange : Event → Core J → Core J → Type 0
  MayChange (Submit session number asked) old new = SubmitChanges asked old new
  MayChange (Order order) old new = OrderChanges order old new
  MayChange (Take executor) old new = TakeChanges executor old new
  MayChange (Send executor) old new = SendChanges executor old new

  -- An event answered `Nothing` changes nothing. Any other changes only what it may change.
  pub record ChangesOnly (event : Event) (answer : EventAnswer) (old new : Core J) : Type 0 where
    pub nothing : answer ≡ Nothing → new ≡ old
    pub something : answer ≢ Nothing → MayChange event old new
