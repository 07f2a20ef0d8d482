-- The answer and the changes of each event.
use Rattle.std.specs.Prelude.{IsTrue, is_some, ◌≡◌, ◌⊎◌, ℕ, zero, suc, ◌+◌, ◌-◌, ◌<◌, ◌&&◌, Bool, true, false, nat_lt, nat_le, List, [], ◌∷◌, ◌++◌, Option, Some, None, Result, Ok, Err, Vec, length, map, replicate, slice_set}
use Rattle.std.specs.List.{slice_get}
use Rattle.std.specs.declared.alloc.Global.{Global}
use Rattle.partitions.specs.Parts.{SharedTables}
use Rattle.requests.specs.declared.request.Request.{Request}
use Rattle.requests.specs.declared.refusal.Refusal.{Refusal}
use Rattle.requests.specs.declared.refusal.Refusal.TheVariants as refusal
use Rattle.requests.specs.Check.{IsAccepted, check_of}
use Rattle.commit_log.specs.Asks.{asking}
use Rattle.commit_log.specs.PassView.{PassView, with_asks, session_seat_view}
use Rattle.history.specs.declared.event.Event.{Event}
use Rattle.history.specs.declared.event.Event.TheVariants.{Submit, Order, Take, Send}
use Rattle.history.specs.declared.event.EventAnswer.{EventAnswer}
use Rattle.history.specs.declared.event.EventAnswer.TheVariants.{Accepted, Ordered, Took, Sent, Full, Moved, Answered, Nothing}
use Rattle.range_moves.specs.declared.placement.Found.{Found}
use Rattle.range_moves.specs.declared.placement.Found.TheVariants.{Here, Went, Unknown}
use Rattle.range_moves.specs.declared.order.MoveOrder.{MoveOrder}
use Rattle.range_moves.specs.declared.order.Moving.{Moving}
use Rattle.range_moves.specs.declared.order.Moving.TheVariants as moving
use Rattle.range_moves.specs.Placements.{PlacementsView, fetched_from, found_by, placement_installed, placement_moved, placement_of, placement_taken, place_of, route_of, with_placement}
use Rattle.range_moves.specs.Orders.{IsWithin, size_of}
use Rattle.transactions.specs.declared.work.Work.{Work as AnyWork}
use Rattle.transactions.specs.Progresses.{IsReached, works_of}
use Rattle.transactions.specs.Works.{home_of_request}
use Rattle.world.specs.declared.desk.Active.TheVariants.{Acting}
use Rattle.world.specs.declared.desk.SessionDesk.{SessionDesk}
use Rattle.world.specs.declared.flight.Flow.{Flow}
use Rattle.world.specs.declared.flight.Envelope.{Envelope}
use Rattle.world.specs.declared.flight.Load.{Load}
use Rattle.world.specs.declared.flight.Load.TheVariants.{Work, Move}
use Rattle.world.specs.declared.flight.Message.{Message}
use Rattle.world.specs.declared.flight.Message.TheVariants as message
use Rattle.world.specs.declared.flight.Outgoing.{Outgoing}
use Rattle.world.specs.declared.flight.Outgoing.TheVariants as outgoing
use Rattle.world.specs.declared.slots.TheConstants.{MOST_ACTIVE}
use Rattle.world.specs.declared.world.Parts.{Parts}
use Rattle.world.specs.declared.world.Core.{Core}
use Rattle.world.specs.Events.{SendsItem, TakesMessage}
use Rattle.world.specs.Envelopes.{home_of_message, is_for_slice, envelope, parked_else, parked_for, outgoing_by, to_itself}
use Rattle.world.specs.Queues.{put_into, queue_of}
use Rattle.world.specs.Slots.{count_active}
use Rattle.world.specs.Sound.{IsSessionOf}

-- ---- submissions

-- Why the desk refuses a request at once: its session has a transaction without an answer, its check refuses it, or
-- MOST_ACTIVE transactions are active. The first that applies is the reason.
abbrev pub refuses : Option PassView → Result (Unit {0}) Refusal → Bool → Option Refusal
refuses None checked full = Some refusal.SessionBusy
refuses (Some pass) (Err why) full = Some why
refuses (Some pass) (Ok accepted) true = Some refusal.Busy
refuses (Some pass) (Ok accepted) false = None

-- A submission as the desk gets it: its session, its number, its request, and whether the inbox where the request would begin
-- has room.
pub record Submission : Type 0 where
  pub session : ℕ
  pub number : ℕ
  pub request : Request
  pub has_room : Bool

abbrev pub submission : Bool → ℕ → ℕ → Request → Submission
submission has_room session number request =
    record { session = session; number = number; request = request; has_room = has_room }

-- MOST_ACTIVE transactions are active.
abbrev pub is_full : {X : Type 0} → List (Option X) → Bool
is_full slots = nat_le MOST_ACTIVE (count_active slots)

-- ---- moves

-- This many warehouses, from this one on, begin to move to an executor.
abbrev pub placements_begun : ℕ → ℕ → ℕ → PlacementsView → PlacementsView
placements_begun zero w_id to h = h
placements_begun (suc more) w_id to h = placements_begun more (w_id + 1) to (with_placement h w_id (placement_moved (placement_of h w_id) to))

-- The answer to the arrival of a slice, by the number of arrivals awaited after it.
abbrev pub answer_arrived : ℕ → EventAnswer
answer_arrived zero = Moved
answer_arrived (suc more) = Sent

module _ {J : Type 0} where
  -- ---- submissions

  -- Why this session's request is refused at once, if it is.
  abbrev pub refusal_at : SessionDesk J → Request → Parts J → Option Refusal
  refusal_at desk request w = refuses desk.pass (check_of w.catalog.scale request) (is_full w.desk.active)

  -- The inbox where the request would begin has room, and there is an age left.
  abbrev pub can_admit : Bool → Parts J → Bool
  can_admit has_room w = has_room && nat_lt w.desk.admitted 18446744073709551615

  -- One more transaction is admitted and active, in a slot that was free. A message with the actions of its first phase is
  -- appended to the inbox, and the session's pass goes with it.
  pub record Admits (session number : ℕ) (asked : Request) (desk : SessionDesk J) (old new : Parts J) : Type 0 where
    pub flow : Flow J
    pub works : Vec AnyWork Global
    pub pass : PassView
    pub age : flow.transaction.age ≡ old.desk.admitted
    pub number_is : flow.transaction.number ≡ number
    pub request : flow.transaction.request ≡ asked
    pub held : flow.transaction.held ≡ []
    pub free : slice_get old.desk.active flow.transaction.slot ≡ Some None
    pub begins : (shared : SharedTables) → IsAccepted shared.scale asked → IsReached shared asked flow.progress []
    pub here : desk.pass ≡ Some pass
    pub pass_is : flow.transaction.pass ≡ with_asks pass (asking number asked pass.seen pass.mine)
    pub works_are : works.items ≡ works_of flow.progress
    pub catalog : new.catalog ≡ old.catalog
    pub shards : new.shards ≡ old.shards
    pub inbox : new.inbox ≡ old.inbox ++ message.Start flow works ∷ []
    pub outbox : new.outbox ≡ old.outbox
    pub log : new.log ≡ old.log
    pub admitted : new.desk.admitted ≡ old.desk.admitted + 1
    pub active : new.desk.active ≡ slice_set old.desk.active flow.transaction.slot (Some (Acting 0 (replicate (length works.items) None)))
    pub sessions : new.desk.sessions.items
        ≡ slice_set old.desk.sessions.items session (record { seat = session_seat_view desk.seat.session flow.transaction.pass.asks; pass = None })

  -- What a submission requires of a world: each session is at its index.
  abbrev pub CanSubmit : Parts J → Type 0
  CanSubmit w = (number : ℕ) (desk : SessionDesk J) → slice_get w.desk.sessions.items number ≡ Some desk → IsSessionOf number desk

  -- The session exists, and its pass is at the desk.
  abbrev pub CanAsk : Option (SessionDesk J) → Type 0
  CanAsk None = ⊥
  CanAsk (Some desk) = IsTrue (is_some desk.pass)

  -- This is the answer, and nothing changes.
  abbrev pub StaysAt : EventAnswer → Parts J → EventAnswer → Parts J → Type 0
  StaysAt recorded old answer new = (answer ≡ recorded) × (new ≡ old)

  -- The request can't be admitted; or it is refused for lack of memory; or it is admitted.
  abbrev pub SubmitsInto : Bool → Submission → SessionDesk J → Parts J → EventAnswer → Parts J → Type 0
  SubmitsInto false s desk old answer new = StaysAt Nothing old answer new
  SubmitsInto true s desk old answer new =
      StaysAt (Answered s.session s.number (Err refusal.NoMemory)) old answer new
      ⊎ ((answer ≡ Accepted old.desk.admitted) × Admits s.session s.number s.request desk old new)

  -- The request is refused for this reason; without a reason it may be admitted.
  abbrev pub SubmitsUnless : Option Refusal → Submission → SessionDesk J → Parts J → EventAnswer → Parts J → Type 0
  SubmitsUnless (Some why) s desk old answer new = StaysAt (Answered s.session s.number (Err why)) old answer new
  SubmitsUnless None s desk old answer new = SubmitsInto (can_admit s.has_room old) s desk old answer new

  -- A submission at the desk of its session. If there is no such session, nothing happens.
  abbrev pub SubmitsAt : Submission → Option (SessionDesk J) → Parts J → EventAnswer → Parts J → Type 0
  SubmitsAt s None old answer new = StaysAt Nothing old answer new
  SubmitsAt s (Some desk) old answer new = SubmitsUnless (refusal_at desk s.request old) s desk old answer new

  -- The request of this session, with this number, is admitted at the session's desk.
  abbrev pub AdmitsAt : ℕ → ℕ → Request → Parts J → Parts J → Type 0
  AdmitsAt session number asked old new =
      (desk : SessionDesk J) × ((slice_get old.desk.sessions.items session ≡ Some desk) × Admits session number asked desk old new)

  -- There is no such session; or the request is not refused and can't be admitted.
  abbrev pub CannotSubmit : Bool → Option (SessionDesk J) → Request → Parts J → Type 0
  CannotSubmit has_room None asked w = Unit {0}
  CannotSubmit has_room (Some desk) asked w = (refusal_at desk asked w ≡ None) × (can_admit has_room w ≡ false)

  -- ---- the queues

  -- The inbox of an executor has fewer envelopes than its limit.
  abbrev pub has_room : ℕ → Core J → Bool
  has_room executor w = nat_lt (length (queue_of executor w.inboxes)) w.inbox_limit

  -- These are appended to an executor's outbox.
  abbrev pub posting : ℕ → List (Outgoing J) → Core J → Core J
  posting executor more w = record w { outboxes = put_into executor more w.outboxes }

  -- The parts after an event at an executor: the items that it put are moved to the end of the executor's outbox.
  abbrev pub bringing : ℕ → Parts J → Core J → Core J
  bringing executor parts w = posting executor (map (outgoing_by w.placements) parts.outbox) (record w { parts = record parts { outbox = [] } })

  -- ---- one event

  -- This is the answer, and nothing changes.
  abbrev pub StaysAs : EventAnswer → Core J → EventAnswer → Core J → Type 0
  StaysAs recorded old answer new = (answer ≡ recorded) × (new ≡ old)

  -- The executor to which messages for the warehouse of the asking terminal are routed.
  abbrev pub begins_at : Request → Core J → ℕ
  begins_at asked w = route_of w.placements (home_of_request asked)

  -- The message that a submission put is appended to an executor's inbox.
  abbrev pub beginning_at : ℕ → Parts J → Core J → Core J
  beginning_at to parts w = record w {
    parts = record parts { inbox = [] };
    inboxes = put_into to (map (λ (m : Message J). envelope to (Work m)) parts.inbox) w.inboxes;
  }

  -- A submission: the request begins in the inbox of the executor to which messages for its warehouse are routed.
  abbrev pub Submits : ℕ → ℕ → Request → Core J → EventAnswer → Core J → Type 0
  Submits session number asked old answer new =
      let to = begins_at asked old in
      (parts : Parts J) × (SubmitsAt (submission (has_room to old) session number asked) (slice_get old.parts.desk.sessions.items session) old.parts answer parts × (new ≡ beginning_at to parts old))

  -- The move is possible, no other is outstanding, and the inbox of its destination has room.
  pub record CanOrder (order : MoveOrder) (w : Core J) : Type 0 where
    pub none : w.placements.awaited ≡ 0
    pub within : IsWithin (length w.placements.placements) w.placements.executors order
    pub room : length (queue_of order.to w.inboxes) < w.inbox_limit

  -- The move is outstanding, and its order is appended to the inbox of its destination.
  abbrev pub ordering : MoveOrder → Core J → Core J
  ordering order w = record w {
    placements = record w.placements { awaited = size_of order };
    inboxes = put_into order.to (envelope order.to (Move (moving.Order order)) ∷ []) w.inboxes;
  }

  -- A move is ordered exactly if it can be; otherwise nothing changes.
  abbrev pub Orders : MoveOrder → Core J → EventAnswer → Core J → Type 0
  Orders order old answer new = (CanOrder order old × ((answer ≡ Ordered) × (new ≡ ordering order old))) ⊎ ((¬ CanOrder order old) × StaysAs Nothing old answer new)

  -- ---- an envelope is opened

  -- A message is processed.
  abbrev pub WorksOn : ℕ → Message J → Core J → Core J → Type 0
  WorksOn executor message old new = (parts : Parts J) × (TakesMessage message old.parts parts × (new ≡ bringing executor parts old))

  -- A message for a slice is processed if the slice is here, forwarded if it went elsewhere, and otherwise parked.
  abbrev pub FindsSlice : Found → ℕ → Message J → Core J → Core J → Type 0
  FindsSlice Here executor message old new = WorksOn executor message old new
  FindsSlice (Went to) executor message old new = new ≡ posting executor (outgoing.Envelope (envelope to (Work message)) ∷ []) old
  FindsSlice Unknown executor message old new = new ≡ record old { parked = old.parked ++ message ∷ [] }

  -- The start of a transaction needs no slice.
  abbrev pub WorksIfHere : Bool → ℕ → Message J → Core J → Core J → Type 0
  WorksIfHere false executor message old new = WorksOn executor message old new
  WorksIfHere true executor message old new = FindsSlice (found_by old.placements executor (home_of_message message)) executor message old new

  -- What the beginning of a move puts for a warehouse: a fetch to the executor that has the slice, or the arrival if the
  -- destination has it already.
  abbrev pub outgoing_for : Option ℕ → ℕ → ℕ → Outgoing J
  outgoing_for None w_id to = outgoing.Arrived
  outgoing_for (Some from) w_id to = outgoing.Envelope (envelope from (Move (moving.Fetch w_id to)))

  abbrev pub posts_begun : ℕ → ℕ → ℕ → PlacementsView → List (Outgoing J)
  posts_begun zero w_id to h = []
  posts_begun (suc more) w_id to h =
      outgoing_for (fetched_from (place_of h w_id) to) w_id to ∷ posts_begun more (w_id + 1) to (with_placement h w_id (placement_moved (placement_of h w_id) to))

  -- An order begins a move: each slice of its range is fetched or is here already. A fetch takes a slice out and sends it as a
  -- parcel. A parcel installs a slice and reports its arrival; the messages parked for it are sent to its executor again.
  abbrev pub moves : ℕ → Moving → Core J → Core J
  moves executor (moving.Order order) w =
      posting executor (posts_begun (size_of order) order.lo order.to w.placements) (record w { placements = placements_begun (size_of order) order.lo order.to w.placements })
  moves executor (moving.Fetch w_id to) w =
      posting executor (outgoing.Envelope (envelope to (Move (moving.Parcel w_id))) ∷ []) (record w { placements = with_placement w.placements w_id (placement_taken (placement_of w.placements w_id) executor to) })
  moves executor (moving.Parcel w_id) w =
      posting executor (outgoing.Arrived ∷ to_itself executor (parked_for w_id w.parked))
      (record w { placements = with_placement w.placements w_id (placement_installed (placement_of w.placements w_id) executor); parked = parked_else w_id w.parked })

  -- What an executor does with the load of an envelope.
  abbrev pub Opens : ℕ → Load J → Core J → Core J → Type 0
  Opens executor (Work message) old new = WorksIfHere (is_for_slice message) executor message old new
  Opens executor (Move m) old new = new ≡ moves executor m old

  -- The first envelope of an executor's inbox is opened, if there is one.
  abbrev pub TakesFirst : ℕ → List (Envelope J) → Core J → EventAnswer → Core J → Type 0
  TakesFirst executor [] old answer new = StaysAs Nothing old answer new
  TakesFirst executor (l ∷ rest) old answer new = (answer ≡ Took) × Opens executor l.load (record old { inboxes = slice_set old.inboxes executor rest }) new

  -- ---- an outbox entry is sent

  -- An envelope is appended to its executor's inbox, or, if that is full, put back at the end of the outbox.
  abbrev pub Delivers : Bool → ℕ → Envelope J → Core J → EventAnswer → Core J → Type 0
  Delivers true executor l old answer new = (answer ≡ Sent) × (new ≡ record old { inboxes = put_into l.to (l ∷ []) old.inboxes })
  Delivers false executor l old answer new = (answer ≡ Full) × (new ≡ posting executor (outgoing.Envelope l ∷ []) old)

  -- The effect of sending an outbox entry, by its kind.
  abbrev pub SendsOutgoing : ℕ → Outgoing J → Core J → EventAnswer → Core J → Type 0
  SendsOutgoing executor (outgoing.Envelope l) old answer new = Delivers (has_room l.to old) executor l old answer new
  SendsOutgoing executor (outgoing.Item i) old answer new = (parts : Parts J) × (SendsItem old.log_limit i old.parts answer parts × (new ≡ bringing executor parts old))
  SendsOutgoing executor outgoing.Arrived old answer new =
      let left = old.placements.awaited - 1 in (answer ≡ answer_arrived left) × (new ≡ record old { placements = record old.placements { awaited = left } })

  -- The first entry of an executor's outbox is sent, if there is one.
  abbrev pub SendsFirst : ℕ → List (Outgoing J) → Core J → EventAnswer → Core J → Type 0
  SendsFirst executor [] old answer new = StaysAs Nothing old answer new
  SendsFirst executor (p ∷ rest) old answer new = SendsOutgoing executor p (record old { outboxes = slice_set old.outboxes executor rest }) answer new

  -- ---- events

  -- The answer to an event and all that it changes. An executor that does not exist has no envelopes and nothing to send.
  abbrev pub Happens : Event → Core J → EventAnswer → Core J → Type 0
  Happens (Submit session number asked) old answer new = Submits session number asked old answer new
  Happens (Order order) old answer new = Orders order old answer new
  Happens (Take executor) old answer new = TakesFirst executor (queue_of executor old.inboxes) old answer new
  Happens (Send executor) old answer new = SendsFirst executor (queue_of executor old.outboxes) old answer new
