-- There is always room in the outbox.
use Rattle.std.proofs.lemmas.List.Elements.{All-head, All-tail}
use Rattle.world.specs.declared.flight.Message.{Message}
use Rattle.std.proofs.Common.{◌≡◌, ap, ℕ, ◌+◌, ◌*◌, ◌<◌, ◌≤◌, zero, suc, List, [], ◌∷◌, ◌++◌, length, Option, Some, None, replicate, refl, arith, length-append}
use Rattle.std.specs.Prelude.{map, All, slice_set}
use Rattle.std.specs.List.{sum_by}
use Rattle.std.proofs.lemmas.Grind.{flat_map-append}
use Rattle.std.proofs.lemmas.List.Sorted.{length_permutation}
use Rattle.std.proofs.lemmas.List.Sums.{sum_by-cons, sum_by-append}
use Rattle.rows.specs.declared.limits.TheConstants.{MOST_WAREHOUSES}
use Rattle.rendezvous.specs.Awaited.{awaited_from}
use Rattle.rendezvous.proofs.Awaiting.{awaited_at_most}
use Rattle.partitions.specs.Parts.{SharedTables}
use Rattle.transactions.specs.declared.laws.TheConstants.{MOST_ACTIONS}
use Rattle.transactions.proofs.Reached.{few_actions}
use Rattle.world.specs.declared.desk.Active.{Active}
use Rattle.world.specs.declared.desk.Active.TheVariants as active
use Rattle.world.specs.declared.flight.Message.TheVariants.{Start, Act, Settle, Undo}
use Rattle.world.specs.declared.flight.Item.{Item}
use Rattle.world.specs.declared.flight.Item.TheVariants as item
use Rattle.range_moves.specs.Traffic.{Dispatch}
use Rattle.range_moves.proofs.Located as located
use Rattle.world.specs.declared.flight.Envelope.{Envelope}
use Rattle.world.specs.declared.flight.Load.{Load}
use Rattle.world.specs.declared.flight.Load.TheVariants.{Work, Move}
use Rattle.world.specs.declared.flight.Outgoing.{Outgoing}
use Rattle.world.specs.declared.flight.Outgoing.TheVariants as outgoing
use Rattle.world.specs.declared.slots.TheConstants.{MOST_ACTIVE}
use Rattle.world.specs.declared.world.Core.{Core}
use Rattle.world.specs.declared.world.Parts.{Parts}
use Rattle.world.specs.Envelopes.{arrived_of, going_in, home_of_message, items_in, items_of, envelopes_of, envelopes_out, messages_in, messages_of, sent_in, sent_of}
use Rattle.world.specs.Queues.{all_of, queue_of}
use Rattle.world.specs.Shards.{waiting_in}
use Rattle.world.specs.Together.{IsLocated, IsSound, arrived_in, envelopes_of_all, together}
use Rattle.world.specs.Flights.{Acting, Ending, InFlight, nothing, parts, part_item, part_message}
use Rattle.world.specs.Sound.{ActiveTransactions, ActiveTransaction, IsSoundWith, IsSoundActive, AreSoundActive, awaited, awaited_by_all, flight, IsSoundMessage}
use Rattle.world.proofs.Balances.{in_inbox, in_outbox, in_meeting}
use Rattle.world.proofs.Asking.{one_each, some_token}
use Rattle.world.proofs.Shuffles.{own_apart, shuffle-order}

-- so many are in flight at most: of each slot all actions, and what was submitted
abbrev pub most_in_flight : ℕ
most_in_flight = MOST_ACTIVE * (MOST_ACTIONS + 1)

-- and with what moves bring, so many stand in an outbox
abbrev pub most_outgoing : ℕ
most_outgoing = most_in_flight + MOST_WAREHOUSES

length-more : {X : Type 0} (xs ys : List X) → length (xs ++ ys) ≡ length xs + length ys
length-more xs ys = length-append xs ys

-- as many tokens as places
pub as_many : (slot : ℕ) (ns : List ℕ) → sum_by one_each (map (Acting slot) ns) ≡ length ns
as_many slot [] = refl
as_many slot (n ∷ ns) = omega (arith, sum_by-cons one_each (Acting slot n) (map (Acting slot) ns), as_many slot ns)

-- as many tokens as actions that end
pub so_many_end : (slot left : ℕ) → sum_by one_each (replicate left (Ending slot)) ≡ left
so_many_end slot zero = refl
so_many_end slot (suc left) = omega (arith, sum_by-cons one_each (Ending slot) (replicate left (Ending slot)), so_many_end slot left)

-- what one queue has, all of them have
few_in_one : {X : Type 0} (queues : List (List X)) (place : ℕ) → place < length queues → length (queue_of place queues) ≤ length (all_of queues)
few_in_one queues place below =
    let others = all_of (slice_set queues place []) in
    omega (arith, length-more (queue_of place queues) others, length_permutation (all_of queues) (queue_of place queues ++ others) (shuffle-order (all_of queues) (queue_of place queues ++ others) (own_apart queues place below)))

module _ {J : Type 0} where
  -- an item has a token, or it has a transaction
  item_weighs : (i : Item J) → 1 ≤ sum_by one_each (part_item i).tokens + length (part_item i).pending
  item_weighs (item.Push (Start flow works)) = omega arith
  item_weighs (item.Push (Act act)) = omega arith
  item_weighs (item.Push (Settle slot claims)) = omega arith
  item_weighs (item.Push (Undo slot claims)) = omega arith
  item_weighs (item.Report r) = omega arith
  item_weighs (item.Ended slot) = omega arith
  item_weighs (item.Commit commit) = omega arith
  item_weighs (item.Reply recorded) = omega arith

  items_weigh : (items : List (Item J)) → length items ≤ sum_by one_each (parts part_item items).tokens + length (parts part_item items).pending
  items_weigh [] = omega arith
  items_weigh (i ∷ items) =
      omega (arith, item_weighs i, items_weigh items, sum_by-append one_each (part_item i).tokens (parts part_item items).tokens, length-more (part_item i).pending (parts part_item items).pending)

  few_awaited : (shared : SharedTables) (slot : ℕ) (u : ActiveTransaction) (a : Option (Active J)) → IsSoundActive shared slot u a → sum_by one_each (awaited slot a) ≤ MOST_ACTIONS
  few_awaited shared slot u None h = omega arith
  few_awaited shared slot u (Some (active.Acting first slots)) h =
      omega (arith, as_many slot (awaited_from first slots), awaited_at_most first slots, h.many, few_actions shared u.request u.progress u.held h.reached)
  few_awaited shared slot u (Some active.Committing) h = omega arith
  few_awaited shared slot u (Some (active.Ending left)) h = omega (arith, so_many_end slot left, h.1)

  few_in_all : (shared : SharedTables) (at : ActiveTransactions) (slot : ℕ) (slots : List (Option (Active J))) → AreSoundActive shared at slot slots
      → sum_by one_each (awaited_by_all slot slots) ≤ length slots * MOST_ACTIONS
  few_in_all shared at slot [] h = omega arith
  few_in_all shared at slot (a ∷ slots) h =
      omega (
        arith,
        sum_by-append one_each (awaited slot a) (awaited_by_all (suc slot) slots),
        few_awaited shared slot (at slot) a h.0,
        few_in_all shared at (suc slot) slots h.1,
      )

  -- and a message has a token
  messages_weigh : (shared : SharedTables) (at : ActiveTransactions) (messages : List (Message J)) → All (IsSoundMessage shared at) messages → length messages ≤ sum_by one_each (parts part_message messages).tokens
  messages_weigh shared at [] h = omega arith
  messages_weigh shared at (message ∷ messages) h =
      omega (
        arith,
        some_token shared at message (All-head (IsSoundMessage shared at) message messages h),
        messages_weigh shared at messages (All-tail (IsSoundMessage shared at) message messages h),
        sum_by-append one_each (part_message message).tokens (parts part_message messages).tokens,
      )

  -- there are so many messages and items at most
  pub few_in_flight : (shared : SharedTables) (hand : InFlight) (w : Parts J) → IsSoundWith shared hand w → length w.inbox + length w.outbox ≤ most_in_flight
  few_in_flight shared hand w h =
      let met = in_meeting w in
      let tokens = h.balance.tokens one_each in
      omega (
        arith,
        items_weigh w.outbox,
        messages_weigh shared h.in_flight w.inbox h.inbox,
        tokens,
        few_in_all shared h.in_flight 0 w.desk.active h.active,
        h.slots,
        h.balance.many,
        sum_by-append one_each hand.tokens (flight w).tokens,
        sum_by-append one_each (in_inbox w).tokens ((in_outbox w).tokens ++ met.tokens),
        sum_by-append one_each (in_outbox w).tokens met.tokens,
        length-more hand.pending (flight w).pending,
        length-more (in_inbox w).pending ((in_outbox w).pending ++ met.pending),
        length-more (in_outbox w).pending met.pending,
      )

  -- ---- the executors' queues

  one_outgoing : (p : Outgoing J) → 1 ≤ length (items_of p) + (length (sent_in (envelopes_of p)) + arrived_of p)
  one_outgoing (outgoing.Envelope l) = by l.load
    where
      by : (load : Load J) → 1 ≤ length (map item.Push (messages_of load)) + (length (sent_of l.to load ++ []) + 0)
      by (Work m) = omega arith
      by (Move m) = omega arith
  one_outgoing (outgoing.Item i) = omega arith
  one_outgoing outgoing.Arrived = omega arith

  -- each is an item of a transaction, or of a move
  few_posts : (posts : List (Outgoing J)) → length posts ≤ length (items_in posts) + (length (sent_in (envelopes_out posts)) + sum_by arrived_of posts)
  few_posts [] = omega arith
  few_posts (p ∷ posts) =
      omega (
        arith,
        one_outgoing p,
        few_posts posts,
        length-more (items_of p) (items_in posts),
        ap (λ (ds : List Dispatch). length ds) (flat_map-append (λ (l : Envelope J). sent_of l.to l.load) (envelopes_of p) (envelopes_out posts)),
        length-more (sent_in (envelopes_of p)) (sent_in (envelopes_out posts)),
        sum_by-cons arrived_of p posts,
      )

  -- an executor's outbox has few beside the items
  pub few_outgoing : (w : Core J) → IsLocated w → length w.placements.placements ≤ MOST_WAREHOUSES → (executor : ℕ) → executor < length w.outboxes
      → length (queue_of executor w.outboxes) ≤ length (items_in (all_of w.outboxes)) + MOST_WAREHOUSES
  few_outgoing w h many executor there =
      let posts = all_of w.outboxes in
      let envelopes = envelopes_of_all w in
      omega (
        arith,
        few_in_one w.outboxes executor there,
        few_posts posts,
        located.few_sent 0 w.placements (going_in envelopes) (sent_in envelopes) (arrived_in w) (map home_of_message w.parked) h,
        ap (λ (ds : List Dispatch). length ds) (flat_map-append (λ (l : Envelope J). sent_of l.to l.load) (all_of w.inboxes) (envelopes_out posts)),
        length-more (sent_in (all_of w.inboxes)) (sent_in (envelopes_out posts)),
        many,
      )

  -- it has room for much more, also for all that is parked
  pub room_in : (shared : SharedTables) (w : Core J) → IsSound shared w → length w.placements.placements ≤ MOST_WAREHOUSES → (executor : ℕ) → executor < length w.outboxes
      → length (queue_of executor w.outboxes) + length w.parked ≤ most_outgoing
  room_in shared w h many executor there =
      let come = messages_in (all_of w.inboxes) in
      omega (
        arith,
        few_outgoing w h.located many executor there,
        few_in_flight shared nothing (together w) h.all,
        length-more (waiting_in w.parts) (come ++ w.parked),
        length-more come w.parked,
      )
