-- What each event does, from the contracts of its functions.
use Rattle.std.proofs.Common.{◌≡◌, ℕ, ◌+◌, ◌-◌, ◌<◌, ◌≤◌, List, [], ◌∷◌, ◌++◌, length, map, refl, sym, ◌∙◌, ap, subst, arith, length-append}
use Rattle.std.specs.Prelude.{All, slice_set}
use Rattle.std.proofs.lemmas.List.{get_or-set_same, length-set}
use Rattle.std.proofs.lemmas.List.Elements.{All-cons, All-head, All-nil, All-tail, All-weaker}
use Rattle.partitions.specs.Parts.{SharedTables, shared_of}
use Rattle.schema.specs.Database.{Database}
use Rattle.slices.specs.SliceView.{AreSlicesOf}
use Rattle.transactions.specs.declared.laws.TheConstants.{MOST_ACTIONS}
use Rattle.transactions.specs.Laws.{TransactionsClaimEachGroupOnce}
use Rattle.history.specs.declared.event.Event.TheVariants.{Take, Send}
use Rattle.history.specs.declared.event.EventAnswer.{EventAnswer}
use Rattle.history.specs.declared.event.EventAnswer.TheVariants.{Took}
use Rattle.history.specs.History.{step}
use Rattle.range_moves.specs.declared.placement.Placement.{Placement}
use Rattle.range_moves.specs.declared.order.MoveOrder.{MoveOrder}
use Rattle.range_moves.specs.declared.order.Moving.TheVariants as moving
use Rattle.range_moves.specs.Placements.{AreKept, PlacementsView, IsPlacementOf, IsWarehouse, comes_to, route_of}
use Rattle.range_moves.specs.Orders.{IsWithin}
use Rattle.range_moves.specs.Traffic.{IsLocatedWith}
use Rattle.range_moves.proofs.Located as located
use Rattle.range_moves.proofs.Knowing.{by_warehouse, kept_placement}
use Rattle.world.specs.declared.flight.Item.{Item}
use Rattle.world.specs.declared.flight.Item.TheVariants as item
use Rattle.world.specs.declared.flight.Envelope.{Envelope}
use Rattle.world.specs.declared.flight.Load.{Load}
use Rattle.world.specs.declared.flight.Load.TheVariants.{Work, Move}
use Rattle.world.specs.declared.flight.Message.{Message}
use Rattle.world.specs.declared.flight.Outgoing.{Outgoing}
use Rattle.world.specs.declared.flight.Outgoing.TheVariants as outgoing
use Rattle.world.specs.declared.world.Core.{Core}
use Rattle.world.specs.declared.world.Parts.{Parts}
use Rattle.world.specs.Events.{CanSend, CanWork, SendsItem, TakesMessage}
use Rattle.world.specs.Flights.{nothing}
use Rattle.world.specs.Happening.{Happens, Opens, SendsFirst, SendsOutgoing, TakesFirst, answer_arrived, has_room}
use Rattle.world.specs.InHand.{EnvelopeInHand, OutgoingInHand}
use Rattle.world.specs.Envelopes.{HasHome, HasHomeIn, IsOutgoing, going_in, home_of_message, envelope, messages_in, sent_in}
use Rattle.world.specs.Queues.{TakesFrom, all_of, queue_of}
use Rattle.world.specs.Sound.{IsSoundItem, IsSoundMessage}
use Rattle.world.specs.Shards.{IsShardOf, slices_in, waiting_in}
use Rattle.world.specs.Together.{IsLocated, IsSound, arrived_in, envelopes_of_all, together}
use Rattle.world.specs.Worlds.{Advances}
use Rattle.world.proofs.Executing.{GoesOnWith, has_home, has_home_in, message_hand, works_if_here, works_sound}
use Rattle.world.proofs.Framed.{framed, sends_framed}
use Rattle.world.proofs.Moves.{arrives, begins_move, installs, takes_out}
use Rattle.world.proofs.Posting.{holding, is_own, is_outgoing, takes_envelope, takes_outgoing, there_in, there_out}
use Rattle.world.proofs.Ready.{can_send, can_work}
use Rattle.world.proofs.Rooms.{few_outgoing, few_in_flight, most_outgoing, room_in}
use Rattle.world.proofs.Sent.{item_taken, sends_item, sends_envelope}

-- messages go to one of the executors
pub routes_below : (h : PlacementsView) → 1 ≤ h.executors → All (IsPlacementOf h.executors) h.placements → (w_id : ℕ) → route_of h w_id < h.executors
routes_below h some kept w_id =
    by_warehouse h w_id (λ there. (kept_placement h w_id kept there).there)
    (λ no. subst (λ (x : Placement). comes_to x.place < h.executors) (sym no) (omega (arith, some)))

-- the rest of a list all of whose elements satisfy this
front : {X : Type 0} (P : X → Type 0) (xs ys : List X) → All P (xs ++ ys) → All P xs
front P [] ys all = All-nil P
front P (x ∷ xs) ys all = All-cons P x xs (All-head P x (xs ++ ys) all) (front P xs ys (All-tail P x (xs ++ ys) all))

pub back : {X : Type 0} (P : X → Type 0) (xs ys : List X) → All P (xs ++ ys) → All P ys
back P [] ys all = all
back P (x ∷ xs) ys all = back P xs ys (All-tail P x (xs ++ ys) all)

module _ {J : Type 0} where
  -- ---- an envelope is opened

  module _ (shared : SharedTables) (w : Core J) (h : IsSound shared w) (executor : ℕ) (l : Envelope J) (inboxes : List (List (Envelope J))) (taken : TakesFrom executor l w.inboxes inboxes) where
    -- it is to its executor
    first_is : queue_of executor w.inboxes ≡ envelope executor l.load ∷ taken.rest
    first_is = taken.first ∙ (λ k. envelope (is_own shared w h executor l taken.rest taken.first k) l.load ∷ taken.rest)

    pub opening : AreKept w.placements → (left : Core J) → left ≡ record w { inboxes = inboxes } → EnvelopeInHand shared executor l.load left
    opening kept left is = record { whole = w; sound = h; kept = kept; rest = taken.rest; first = first_is; left_is = is ∙ ap (λ qs. record w { inboxes = qs }) taken.left }

    pub opened : TransactionsClaimEachGroupOnce → AreKept w.placements → (left new : Core J) → left ≡ record w { inboxes = inboxes }
        → Opens executor l.load left new → All (IsShardOf shared.scale.warehouses) new.parts.shards.items
        → IsSound shared new × (Advances (together w) (step (Take executor) Took ∷ []) (together new) × Happens (Take executor) w Took new)
    opened once kept left new is opens shards =
        let from : Core J = record w { inboxes = slice_set w.inboxes executor taken.rest } in
        let said : Opens executor l.load from new = subst (λ (v : Core J). Opens executor l.load v new) (is ∙ ap (λ qs. record w { inboxes = qs }) taken.left) opens in
        let both = by l.load first_is said in (
          both.0,
          (both.1, subst (λ (q : List (Envelope J)). TakesFirst executor q w Took new) (sym taken.first) (refl, said)),
        )
      where
        below : (w_id : ℕ) → route_of w.placements w_id < w.placements.executors
        below = routes_below w.placements kept.some kept.each

        by : (load : Load J) → queue_of executor w.inboxes ≡ envelope executor load ∷ taken.rest → Opens executor load (record w { inboxes = slice_set w.inboxes executor taken.rest }) new → GoesOnWith shared w (Take executor) Took new
        by (Work m) first works = works_if_here shared w h executor taken.rest m first below once new works shards
        by (Move (moving.Order order)) first said = begins_move shared w h below executor taken.rest order first new said
        by (Move (moving.Fetch w_id to)) first said = takes_out shared w h below executor taken.rest kept.each kept.most w_id to first new said
        by (Move (moving.Parcel w_id)) first said = installs shared w h below executor taken.rest w_id first new said

  -- ---- what is first in an outbox is sent

  module _ (shared : SharedTables) (w : Core J) (h : IsSound shared w) (executor : ℕ) (p : Outgoing J) (outboxes : List (List (Outgoing J))) (taken : TakesFrom executor p w.outboxes outboxes) where
    pub sending : AreKept w.placements → (left : Core J) → left ≡ record w { outboxes = outboxes } → OutgoingInHand shared executor p left
    sending kept left is = record { whole = w; sound = h; kept = kept; rest = taken.rest; first = taken.first; left_is = is ∙ ap (λ qs. record w { outboxes = qs }) taken.left }

    pub was_sent : AreKept w.placements → (left new : Core J) (answer : EventAnswer) → left ≡ record w { outboxes = outboxes }
        → SendsOutgoing executor p left answer new → IsSound shared new × (Advances (together w) (step (Send executor) answer ∷ []) (together new) × Happens (Send executor) w answer new)
    was_sent kept left new answer is sends =
        let from : Core J = record w { outboxes = slice_set w.outboxes executor taken.rest } in
        let said : SendsOutgoing executor p from answer new = subst (λ (v : Core J). SendsOutgoing executor p v answer new) (is ∙ ap (λ qs. record w { outboxes = qs }) taken.left) sends in
        let both = by p taken.first said in (
          both.0,
          (both.1, subst (λ (q : List (Outgoing J)). SendsFirst executor q w answer new) (sym taken.first) said),
        )
      where
        by : (p : Outgoing J) → queue_of executor w.outboxes ≡ p ∷ taken.rest → SendsOutgoing executor p (record w { outboxes = slice_set w.outboxes executor taken.rest }) answer new → GoesOnWith shared w (Send executor) answer new
        by (outgoing.Envelope l) first said = sends_envelope shared w h executor l taken.rest first (has_room l.to w) answer new said
        by (outgoing.Item i) first said = sends_item shared w h executor i taken.rest first (routes_below w.placements kept.some kept.each) said.0 answer new said.1.0 said.1.1
        by outgoing.Arrived first said = (arrives shared w h executor taken.rest first answer new said.0 said.1).1

  -- ---- what is asked of the functions

  -- of a world of which an executor opens an envelope
  pub record CanOpen (shared : SharedTables) (executor : ℕ) (left : Core J) : Type 0 where
    pub there : executor < length left.outboxes
    pub here : executor < left.placements.executors
    pub room : length (queue_of executor left.outboxes) + length left.parked ≤ most_outgoing
    pub waiting : length (waiting_in left.parts) + (MOST_ACTIONS + 1) ≤ 4096
    pub catalog : left.parts.catalog ≡ shared
    pub slices : AreSlicesOf left.parts.catalog (slices_in left.parts)
    pub shards : All (IsShardOf shared.scale.warehouses) left.parts.shards.items
    pub no_outbox : left.parts.outbox ≡ []
    pub warehouses : length left.placements.placements ≡ shared.scale.warehouses
    pub kept : AreKept left.placements

  pub can_open : (shared : SharedTables) (executor : ℕ) (load : Load J) (left : Core J) → EnvelopeInHand shared executor load left → CanOpen shared executor left
  can_open shared executor load left o =
      let w = o.whole in
      let h = o.sound in
      let inbox_there = there_in shared w h executor (envelope executor load) o.rest o.first in
      let there : executor < length w.outboxes = omega (arith, inbox_there, h.inboxes, h.outboxes) in
      let all = few_in_flight shared nothing (together w) h.all in
      let waiting = waiting_in w.parts in
      let come = messages_in (all_of w.inboxes) in
      subst (λ (v : Core J). CanOpen shared executor v) (sym o.left_is) (record {
        there = there;
        here = omega (arith, there, h.outboxes);
        room = room_in shared w h o.kept.many executor there;
        waiting = omega (arith, all, length-append waiting (come ++ w.parked));
        catalog = h.all.shared_is;
        slices = h.all.slices;
        shards = h.shards;
        no_outbox = h.no_outbox;
        warehouses = h.warehouses;
        kept = o.kept;
      })

  -- the message can be worked on, and has its home
  pub can_take : (shared : SharedTables) (executor : ℕ) (m : Message J) (left : Core J) → EnvelopeInHand shared executor (Work m) left → CanWork shared m × HasHome m
  can_take shared executor m left o =
      let hand = message_hand shared o.whole o.sound executor o.rest m o.first in
      (can_work shared hand.0.in_flight m hand.1, has_home shared hand.0.in_flight m hand.1)

  -- what a message has put fits the outbox
  pub can_post_work : TransactionsClaimEachGroupOnce → (shared : SharedTables) (executor : ℕ) (m : Message J) (left : Core J) → EnvelopeInHand shared executor (Work m) left → (parts : Parts J) → TakesMessage m left.parts parts
      → All HasHomeIn parts.outbox × (length (queue_of executor left.outboxes) + length parts.outbox ≤ most_outgoing)
  can_post_work once shared executor m left o parts said =
      let w = o.whole in
      let given : TakesMessage m w.parts parts = subst (λ (v : Core J). TakesMessage m v.parts parts) o.left_is said in
      let sound = works_sound shared w o.sound executor o.rest m o.first once parts given in
      let from : Core J = record w { inboxes = slice_set w.inboxes executor o.rest; parts = record parts { outbox = [] } } in
      let items = (together from).outbox in
      let homes = front (IsSoundItem shared sound.in_flight) parts.outbox items sound.outbox in
      let inbox_there = there_in shared w o.sound executor (envelope executor (Work m)) o.rest o.first in
      let there : executor < length w.outboxes = omega (arith, inbox_there, o.sound.inboxes, o.sound.outboxes) in
      let all = few_in_flight shared nothing (holding [] parts.outbox from) sound in (
        All-weaker (IsSoundItem shared sound.in_flight) HasHomeIn (λ i is. has_home_in shared sound.in_flight parts i is) parts.outbox homes,
        omega (
          arith,
          all,
          length-append parts.outbox items,
          few_outgoing w o.sound.located o.kept.many executor there,
          ap (λ (v : Core J). length (queue_of executor v.outboxes)) o.left_is,
        ),
      )

  -- ---- of a world of which an executor sends something

  pub record CanPost (shared : SharedTables) (executor : ℕ) (left : Core J) : Type 0 where
    pub there : executor < length left.outboxes
    pub room : length (queue_of executor left.outboxes) ≤ most_outgoing
    pub inboxes : length left.inboxes ≡ left.placements.executors
    pub no_outbox : left.parts.outbox ≡ []

  pub can_post : (shared : SharedTables) (executor : ℕ) (p : Outgoing J) (left : Core J) → OutgoingInHand shared executor p left → CanPost shared executor left × IsOutgoing left.placements.executors p
  can_post shared executor p left s =
      let w = s.whole in
      let h = s.sound in
      let there = there_out shared w h executor p s.rest s.first in
      let room = room_in shared w h s.kept.many executor there in
      let rest_is : queue_of executor (slice_set w.outboxes executor s.rest) ≡ s.rest = get_or-set_same w.outboxes executor s.rest [] there in
      subst (λ (v : Core J). CanPost shared executor v × IsOutgoing v.placements.executors p) (sym s.left_is) (
        record {
          there = omega (arith, there, length-set w.outboxes executor s.rest);
          room = omega (arith, room, ap (λ (q : List (Outgoing J)). length q) s.first, ap (λ (q : List (Outgoing J)). length q) rest_is);
          inboxes = h.inboxes;
          no_outbox = h.no_outbox;
        },
        is_outgoing shared w h executor p s.rest s.first,
      )

  -- what is asked of an item names no queue
  can_framed : (opening : Database) (messages : List (Message J)) (items : List (Item J)) (w : Parts J) (i : Item J) → CanSend opening i (framed messages items w) → CanSend opening i w
  can_framed opening messages items w (item.Push m) h = h
  can_framed opening messages items w (item.Report r) h = h
  can_framed opening messages items w (item.Ended slot) h = h
  can_framed opening messages items w (item.Commit commit) h = h
  can_framed opening messages items w (item.Reply recorded) h = h

  pub can_send_item : (opening : Database) (executor : ℕ) (i : Item J) (left : Core J) → OutgoingInHand (shared_of opening) executor (outgoing.Item i) left → CanSend opening i left.parts
  can_send_item opening executor i left s =
      let w = s.whole in
      let taken = item_taken (shared_of opening) w s.sound executor i s.rest s.first in
      let from : Core J = record w { outboxes = slice_set w.outboxes executor s.rest } in
      let messages = (together from).inbox in
      let items = (together from).outbox in
      subst (λ (v : Core J). CanSend opening i v.parts) (sym s.left_is) (can_framed opening messages items w.parts i (can_send opening (framed messages items w.parts) i taken.0 taken.1))

  -- what an item has put fits the outbox
  pub can_post_item : (log_limit : ℕ) (shared : SharedTables) (executor : ℕ) (i : Item J) (left : Core J) → OutgoingInHand shared executor (outgoing.Item i) left → (answer : EventAnswer) (parts : Parts J) → SendsItem log_limit i left.parts answer parts
      → All HasHomeIn parts.outbox × (length (queue_of executor left.outboxes) + length parts.outbox ≤ most_outgoing)
  can_post_item log_limit shared executor i left s answer parts said =
      let w = s.whole in
      let given : SendsItem log_limit i w.parts answer parts = subst (λ (v : Core J). SendsItem log_limit i v.parts answer parts) s.left_is said in
      let taken = item_taken shared w s.sound executor i s.rest s.first in
      let from : Core J = record w { outboxes = slice_set w.outboxes executor s.rest } in
      let messages = (together from).inbox in
      let items = (together from).outbox in
      let sound = (sends_framed messages items log_limit shared w.parts parts i answer taken.0 taken.1 given).sound in
      let homes = back (IsSoundItem shared sound.in_flight) items parts.outbox sound.outbox in
      let there = there_out shared w s.sound executor (outgoing.Item i) s.rest s.first in
      let hand = takes_outgoing shared w s.sound executor (outgoing.Item i) s.rest s.first in
      let there_left : executor < length from.outboxes = omega (arith, there, length-set w.outboxes executor s.rest) in
      let kept : IsLocated from =
      subst (λ n. IsLocatedWith 0 w.placements (going_in (envelopes_of_all from)) (sent_in (envelopes_of_all from)) n (map home_of_message w.parked)) (omega arith) hand.located in
      let all = few_in_flight shared nothing (framed messages items parts) sound in (
        All-weaker (IsSoundItem shared sound.in_flight) HasHomeIn (λ i is. has_home_in shared sound.in_flight parts i is) parts.outbox homes,
        omega (
          arith,
          all,
          length-append items parts.outbox,
          few_outgoing from kept s.kept.many executor there_left,
          ap (λ (v : Core J). length (queue_of executor v.outboxes)) s.left_is,
        ),
      )

  -- a report of a move is awaited
  pub is_awaited : (shared : SharedTables) (executor : ℕ) (left : Core J) → OutgoingInHand shared executor outgoing.Arrived left → 1 ≤ left.placements.awaited
  is_awaited shared executor left s =
      let w = s.whole in
      let awaited = w.placements.awaited - 1 in
      let from : Core J = record w { outboxes = slice_set w.outboxes executor s.rest; placements = record w.placements { awaited = awaited } } in
      subst (λ (v : Core J). 1 ≤ v.placements.awaited) (sym s.left_is) (arrives shared w s.sound executor s.rest s.first (answer_arrived awaited) from refl refl).0

  -- ---- what moves are asked

  -- of the beginning of a move
  pub can_begin : (shared : SharedTables) (executor : ℕ) (order : MoveOrder) (left : Core J) → EnvelopeInHand shared executor (Move (moving.Order order)) left → IsWithin (length left.placements.placements) left.placements.executors order
  can_begin shared executor order left o =
      let w = o.whole in
      let kept = (takes_envelope shared w o.sound executor (envelope executor (Move (moving.Order order))) o.rest o.first).located in
      let from : Core J = record w { inboxes = slice_set w.inboxes executor o.rest } in
      let envelopes = envelopes_of_all from in
      subst (λ (v : Core J). IsWithin (length v.placements.placements) v.placements.executors order) (sym o.left_is)
      (located.begun w.placements (going_in envelopes) (sent_in envelopes) (0 + arrived_in from) (map home_of_message w.parked) executor order kept).1

  -- of a fetch
  pub can_fetch : (shared : SharedTables) (executor w_id to : ℕ) (left : Core J) → EnvelopeInHand shared executor (Move (moving.Fetch w_id to)) left → IsWarehouse left.placements w_id × (to < left.placements.executors)
  can_fetch shared executor w_id to left o =
      let w = o.whole in
      let kept = (takes_envelope shared w o.sound executor (envelope executor (Move (moving.Fetch w_id to))) o.rest o.first).located in
      let from : Core J = record w { inboxes = slice_set w.inboxes executor o.rest } in
      let envelopes = envelopes_of_all from in
      let found = located.fetch_found 0 w.placements (going_in envelopes) (sent_in envelopes) (0 + arrived_in from) (map home_of_message w.parked) w_id executor to kept in
      let below : to < w.placements.executors = subst (λ n. n < w.placements.executors) (sym found.2) (routes_below w.placements o.kept.some o.kept.each w_id) in
      subst (λ (v : Core J). IsWarehouse v.placements w_id × (to < v.placements.executors)) (sym o.left_is) (found.1, below)

  -- each message that is parked has its home
  pub parked_homes : (shared : SharedTables) (executor : ℕ) (load : Load J) (left : Core J) → EnvelopeInHand shared executor load left → All HasHome left.parked
  parked_homes shared executor load left o =
      let w = o.whole in
      let all = o.sound.all in
      let IsSoundHere : Message J → Type 0 = IsSoundMessage shared all.in_flight in
      let parked = back IsSoundHere (messages_in (all_of w.inboxes)) w.parked (back IsSoundHere (waiting_in w.parts) (messages_in (all_of w.inboxes) ++ w.parked) all.inbox) in
      subst (λ (v : Core J). All HasHome v.parked) (sym o.left_is) (All-weaker IsSoundHere HasHome (λ m is. has_home shared all.in_flight m is) w.parked parked)

  -- of a parcel
  pub can_install : (shared : SharedTables) (executor w_id : ℕ) (left : Core J) → EnvelopeInHand shared executor (Move (moving.Parcel w_id)) left → IsWarehouse left.placements w_id
  can_install shared executor w_id left o =
      let w = o.whole in
      let kept = (takes_envelope shared w o.sound executor (envelope executor (Move (moving.Parcel w_id))) o.rest o.first).located in
      let from : Core J = record w { inboxes = slice_set w.inboxes executor o.rest } in
      let envelopes = envelopes_of_all from in
      let found = located.parcel_found 0 w.placements (going_in envelopes) (sent_in envelopes) (0 + arrived_in from) (map home_of_message w.parked) w_id executor kept in
      subst (λ (v : Core J). IsWarehouse v.placements w_id) (sym o.left_is) found.0
