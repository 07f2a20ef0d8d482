-- What a world keeps while an event has something in hand: envelopes that were taken, messages, and items that are to go to an outbox.
use Rattle.std.proofs.Common.{◌≡◌, ℕ, ◌+◌, ◌<◌, ◌≤◌, List, [], ◌∷◌, ◌++◌, length, refl, ◌∙◌, ap, subst, append_assoc, arith}
use Rattle.std.specs.Prelude.{All, map, slice_set}
use Rattle.std.specs.List.{sum_by}
use Rattle.std.proofs.lemmas.Grind.{flat_map-append}
use Rattle.std.proofs.lemmas.List.{length-set}
use Rattle.std.proofs.lemmas.List.Elements.{All-append, All-cons, All-head, All-nil, All-tail}
use Rattle.std.proofs.lemmas.List.Sorted.{All-permutation}
use Rattle.std.proofs.lemmas.List.Sums.{sum_by-append, sum_by-cons}
use Rattle.partitions.specs.Parts.{SharedTables}
use Rattle.range_moves.specs.Placements.{PlacementsView}
use Rattle.range_moves.specs.Traffic.{IsLocatedWith}
use Rattle.range_moves.proofs.Located.{located_same}
use Rattle.world.specs.declared.flight.Item.{Item}
use Rattle.world.specs.declared.flight.Envelope.{Envelope}
use Rattle.world.specs.declared.flight.Message.{Message}
use Rattle.world.specs.declared.flight.Outgoing.{Outgoing}
use Rattle.world.specs.declared.world.Core.{Core}
use Rattle.world.specs.declared.world.Parts.{Parts}
use Rattle.world.specs.Flights.{nothing}
use Rattle.world.specs.Happening.{posting}
use Rattle.world.specs.Envelopes.{IsOutgoing, IsTo, arrived_of, going_in, going_of, home_of_message, items_in, items_of, envelopes_of, envelopes_out, messages_in, messages_of, sent_in}
use Rattle.world.specs.Queues.{all_of, put_into, queue_of}
use Rattle.world.specs.Sound.{IsSoundWith}
use Rattle.world.specs.Shards.{HaveToWait, IsShardOf, waiting_in}
use Rattle.world.specs.Together.{IsSound, arrived_in, envelopes_of_all, together}
use Rattle.world.proofs.Owned.{own_put}
use Rattle.world.proofs.Passes.{Passes, passes_shuffled}
use Rattle.world.proofs.Reordered.{queued}
use Rattle.world.proofs.Shuffles.{Shuffle, same, then, has_queue, put_apart, shuffle-behind, shuffle-flat, shuffle-front, shuffle-middle, shuffle-order, shuffle-sum, shuffle-sym, taken_apart}

-- more in front of the first of three, come to the front of the second
in_front : {X : Type 0} (waiting ms more left parked : List X) → Shuffle ms (more ++ left) → Shuffle (waiting ++ (ms ++ parked)) (more ++ (waiting ++ (left ++ parked)))
in_front waiting ms more left parked h =
    then (waiting ++ (ms ++ parked)) (waiting ++ (more ++ (left ++ parked))) (more ++ (waiting ++ (left ++ parked)))
    (shuffle-front waiting (ms ++ parked) (more ++ (left ++ parked))
    (subst (λ l. Shuffle (ms ++ parked) l) (append_assoc more left parked) (shuffle-behind parked ms (more ++ left) h)))
    (shuffle-middle waiting more (left ++ parked))

module _ {J : Type 0} where
  -- ---- traffic in another order

  pub located_again : (more : ℕ) (h : PlacementsView) (old new : List (Envelope J)) (arrived arrives : ℕ) (parked waits : List ℕ) → Shuffle old new → arrived ≡ arrives → Shuffle parked waits
      → IsLocatedWith more h (going_in old) (sent_in old) arrived parked → IsLocatedWith more h (going_in new) (sent_in new) arrives waits
  located_again more h old new arrived arrives parked waits envelopes same_arrived same_parked located =
      subst (λ n. IsLocatedWith more h (going_in new) (sent_in new) n waits) same_arrived
      (located_same more h (going_in old) (going_in new) (sent_in old) (sent_in new) arrived parked waits
      (shuffle-order (going_in old) (going_in new) (shuffle-flat (λ (l : Envelope J). going_of l.to l.load) old new envelopes))
      (shuffle-order (sent_in old) (sent_in new) (shuffle-flat _ old new envelopes))
      (shuffle-order parked waits same_parked) located)

  -- ---- in hand

  -- the world with all executors' queues as one, and these messages and items in hand
  abbrev pub holding : List (Message J) → List (Item J) → Core J → Parts J
  holding messages items w = queued w.parts (messages ++ (together w).inbox) (items ++ (together w).outbox)

  -- all that a world keeps, with these messages, items and envelopes in hand, and so many that have arrived
  pub record Keeps (shared : SharedTables) (messages : List (Message J)) (items : List (Item J)) (envelopes : List (Envelope J)) (arrived : ℕ) (w : Core J) : Type 0 where
    pub all : IsSoundWith shared nothing (holding messages items w)
    pub shards : All (IsShardOf shared.scale.warehouses) w.parts.shards.items
    pub wait : All HaveToWait w.parts.shards.items
    pub warehouses : length w.placements.placements ≡ shared.scale.warehouses
    pub inboxes : length w.inboxes ≡ w.placements.executors
    pub outboxes : length w.outboxes ≡ w.placements.executors
    pub own : (executor : ℕ) → All (IsTo executor) (queue_of executor w.inboxes)
    pub outgoing : All (IsOutgoing w.placements.executors) (all_of w.outboxes)
    pub located : IsLocatedWith 0 w.placements (going_in (envelopes ++ envelopes_of_all w)) (sent_in (envelopes ++ envelopes_of_all w)) (arrived + arrived_in w) (map home_of_message w.parked)
    pub no_inbox : w.parts.inbox ≡ []
    pub no_outbox : w.parts.outbox ≡ []

  -- with nothing in hand it is a world
  pub kept_sound : (shared : SharedTables) (w : Core J) → Keeps shared [] [] [] 0 w → IsSound shared w
  kept_sound shared w k = record {
    all = k.all;
    shards = k.shards;
    wait = k.wait;
    warehouses = k.warehouses;
    inboxes = k.inboxes;
    outboxes = k.outboxes;
    own = k.own;
    outgoing = k.outgoing;
    located = subst (λ n. IsLocatedWith 0 w.placements (going_in (envelopes_of_all w)) (sent_in (envelopes_of_all w)) n (map home_of_message w.parked)) (omega arith) k.located;
    no_inbox = k.no_inbox;
    no_outbox = k.no_outbox;
  }

  -- ---- the first envelope of an inbox is taken

  module _ (shared : SharedTables) (w : Core J) (h : IsSound shared w) (executor : ℕ) (l : Envelope J) (rest : List (Envelope J)) (first : queue_of executor w.inboxes ≡ l ∷ rest) where
    abbrev pub left_in : Core J
    left_in = record w { inboxes = slice_set w.inboxes executor rest }

    some_in : 1 ≤ length (queue_of executor w.inboxes)
    some_in = omega (arith, ap (λ (ls : List (Envelope J)). length ls) first)

    pub there_in : executor < length w.inboxes
    there_in = has_queue w.inboxes executor some_in

    envelopes_in : Shuffle (all_of w.inboxes) (l ∷ all_of (slice_set w.inboxes executor rest))
    envelopes_in = taken_apart w.inboxes executor l rest there_in first

    own_first : All (IsTo executor) (l ∷ rest)
    own_first = subst (λ (q : List (Envelope J)). All (IsTo executor) q) first (h.own executor)

    pub is_own : l.to ≡ executor
    is_own = All-head (IsTo executor) l rest own_first

    pub takes_passes : Passes shared (together w) (holding (messages_of l.load) [] left_in)
    takes_passes =
        passes_shuffled shared w.parts (together w).inbox (messages_of l.load ++ (together left_in).inbox) (together w).outbox (together left_in).outbox
        (in_front (waiting_in w.parts) (messages_in (all_of w.inboxes)) (messages_of l.load) (messages_in (all_of left_in.inboxes)) w.parked
        (shuffle-flat (λ (l : Envelope J). messages_of l.load) (all_of w.inboxes) (l ∷ all_of left_in.inboxes) envelopes_in))
        (same (together w).outbox)

    pub takes_envelope : Keeps shared (messages_of l.load) [] (l ∷ []) 0 left_in
    takes_envelope = record {
      all = (takes_passes h.all).sound;
      shards = h.shards;
      wait = h.wait;
      warehouses = h.warehouses;
      inboxes = length-set w.inboxes executor rest ∙ h.inboxes;
      outboxes = h.outboxes;
      own = own_put w.inboxes executor rest there_in h.own (All-tail (IsTo executor) l rest own_first);
      outgoing = h.outgoing;
      located = located_again 0 w.placements (envelopes_of_all w) (l ∷ envelopes_of_all left_in) (arrived_in w) (0 + arrived_in left_in) (map home_of_message w.parked) (map home_of_message w.parked)
          (shuffle-behind (envelopes_out (all_of w.outboxes)) (all_of w.inboxes) (l ∷ all_of left_in.inboxes) envelopes_in)
          (omega arith) (same (map home_of_message w.parked)) h.located;
      no_inbox = h.no_inbox;
      no_outbox = h.no_outbox;
    }

  -- ---- the first of an outbox is taken

  module _ (shared : SharedTables) (w : Core J) (h : IsSound shared w) (executor : ℕ) (p : Outgoing J) (rest : List (Outgoing J)) (first : queue_of executor w.outboxes ≡ p ∷ rest) where
    abbrev pub left_out : Core J
    left_out = record w { outboxes = slice_set w.outboxes executor rest }

    some_out : 1 ≤ length (queue_of executor w.outboxes)
    some_out = omega (arith, ap (λ (ps : List (Outgoing J)). length ps) first)

    pub there_out : executor < length w.outboxes
    there_out = has_queue w.outboxes executor some_out

    posts_out : Shuffle (all_of w.outboxes) (p ∷ all_of left_out.outboxes)
    posts_out = taken_apart w.outboxes executor p rest there_out first

    all_outgoing : All (IsOutgoing w.placements.executors) (p ∷ all_of left_out.outboxes)
    all_outgoing = All-permutation (IsOutgoing w.placements.executors) (all_of w.outboxes) (p ∷ all_of left_out.outboxes) (shuffle-order (all_of w.outboxes) (p ∷ all_of left_out.outboxes) posts_out) h.outgoing

    pub is_outgoing : IsOutgoing w.placements.executors p
    is_outgoing = All-head (IsOutgoing w.placements.executors) p (all_of left_out.outboxes) all_outgoing

    pub sends_passes : Passes shared (together w) (holding [] (items_of p) left_out)
    sends_passes =
        passes_shuffled shared w.parts (together w).inbox (together left_out).inbox (together w).outbox (items_of p ++ (together left_out).outbox)
        (same (together w).inbox) (shuffle-flat items_of (all_of w.outboxes) (p ∷ all_of left_out.outboxes) posts_out)

    pub takes_outgoing : Keeps shared [] (items_of p) (envelopes_of p) (arrived_of p) left_out
    takes_outgoing = record {
      all = (sends_passes h.all).sound;
      shards = h.shards;
      wait = h.wait;
      warehouses = h.warehouses;
      inboxes = h.inboxes;
      outboxes = length-set w.outboxes executor rest ∙ h.outboxes;
      own = h.own;
      outgoing = All-tail (IsOutgoing w.placements.executors) p (all_of left_out.outboxes) all_outgoing;
      located = located_again 0 w.placements (envelopes_of_all w) (envelopes_of p ++ envelopes_of_all left_out) (arrived_in w) (arrived_of p + arrived_in left_out) (map home_of_message w.parked) (map home_of_message w.parked)
          (then (all_of w.inboxes ++ envelopes_out (all_of w.outboxes)) (all_of w.inboxes ++ (envelopes_of p ++ envelopes_out (all_of left_out.outboxes))) (envelopes_of p ++ (all_of w.inboxes ++ envelopes_out (all_of left_out.outboxes)))
          (shuffle-front (all_of w.inboxes) (envelopes_out (all_of w.outboxes)) (envelopes_of p ++ envelopes_out (all_of left_out.outboxes)) (shuffle-flat envelopes_of (all_of w.outboxes) (p ∷ all_of left_out.outboxes) posts_out))
          (shuffle-middle (all_of w.inboxes) (envelopes_of p) (envelopes_out (all_of left_out.outboxes))))
          (shuffle-sum arrived_of (all_of w.outboxes) (p ∷ all_of left_out.outboxes) posts_out ∙ sum_by-cons arrived_of p (all_of left_out.outboxes)) (same (map home_of_message w.parked)) h.located;
      no_inbox = h.no_inbox;
      no_outbox = h.no_outbox;
    }

  -- ---- what is in hand goes to the outbox

  module _ (shared : SharedTables) (w : Core J) (executor : ℕ) (posts : List (Outgoing J)) (messages : List (Message J)) (there : executor < length w.outboxes) where
    abbrev pub then_outgoing : Core J
    then_outgoing = posting executor posts w

    posts_apart : Shuffle (posts ++ all_of w.outboxes) (all_of then_outgoing.outboxes)
    posts_apart = shuffle-sym (all_of then_outgoing.outboxes) (posts ++ all_of w.outboxes) (put_apart w.outboxes executor posts there)

    pub posts_pass : Passes shared (holding messages (items_in posts) w) (holding messages [] then_outgoing)
    posts_pass =
        passes_shuffled shared w.parts (messages ++ (together w).inbox) (messages ++ (together w).inbox) (items_in posts ++ (together w).outbox) (together then_outgoing).outbox
        (same (messages ++ (together w).inbox))
        (subst (λ (l : List (Item J)). Shuffle l (together then_outgoing).outbox) (flat_map-append items_of posts (all_of w.outboxes)) (shuffle-flat items_of (posts ++ all_of w.outboxes) (all_of then_outgoing.outboxes) posts_apart))

    pub posts_keep : Keeps shared messages (items_in posts) (envelopes_out posts) (sum_by arrived_of posts) w → All (IsOutgoing w.placements.executors) posts → Keeps shared messages [] [] 0 then_outgoing
    posts_keep k fine = record {
      all = (posts_pass k.all).sound;
      shards = k.shards;
      wait = k.wait;
      warehouses = k.warehouses;
      inboxes = k.inboxes;
      outboxes = length-set w.outboxes executor (queue_of executor w.outboxes ++ posts) ∙ k.outboxes;
      own = k.own;
      outgoing = All-permutation (IsOutgoing w.placements.executors) (posts ++ all_of w.outboxes) (all_of then_outgoing.outboxes) (shuffle-order (posts ++ all_of w.outboxes) (all_of then_outgoing.outboxes) posts_apart)
          (All-append (IsOutgoing w.placements.executors) posts (all_of w.outboxes) fine k.outgoing);
      located = located_again 0 w.placements (envelopes_out posts ++ envelopes_of_all w) (envelopes_of_all then_outgoing) (sum_by arrived_of posts + arrived_in w) (0 + arrived_in then_outgoing) (map home_of_message w.parked) (map home_of_message w.parked)
          (then (envelopes_out posts ++ (all_of w.inboxes ++ envelopes_out (all_of w.outboxes))) (all_of w.inboxes ++ (envelopes_out posts ++ envelopes_out (all_of w.outboxes))) (all_of w.inboxes ++ envelopes_out (all_of then_outgoing.outboxes))
          (shuffle-middle (envelopes_out posts) (all_of w.inboxes) (envelopes_out (all_of w.outboxes)))
          (shuffle-front (all_of w.inboxes) (envelopes_out posts ++ envelopes_out (all_of w.outboxes)) (envelopes_out (all_of then_outgoing.outboxes))
          (subst (λ (l : List (Envelope J)). Shuffle l (envelopes_out (all_of then_outgoing.outboxes))) (flat_map-append envelopes_of posts (all_of w.outboxes)) (shuffle-flat envelopes_of (posts ++ all_of w.outboxes) (all_of then_outgoing.outboxes) posts_apart))))
          (omega (arith, shuffle-sum arrived_of (posts ++ all_of w.outboxes) (all_of then_outgoing.outboxes) posts_apart, sum_by-append arrived_of posts (all_of w.outboxes)))
          (same (map home_of_message w.parked)) k.located;
      no_inbox = k.no_inbox;
      no_outbox = k.no_outbox;
    }

  -- ---- an envelope comes into an inbox

  module _ (shared : SharedTables) (w : Core J) (l : Envelope J) (there : l.to < length w.inboxes) where
    abbrev pub then_delivered : Core J
    then_delivered = record w { inboxes = put_into l.to (l ∷ []) w.inboxes }

    envelopes_apart : Shuffle (l ∷ all_of w.inboxes) (all_of then_delivered.inboxes)
    envelopes_apart = shuffle-sym (all_of then_delivered.inboxes) (l ∷ all_of w.inboxes) (put_apart w.inboxes l.to (l ∷ []) there)

    pub delivers_pass : Passes shared (holding (messages_of l.load) [] w) (together then_delivered)
    delivers_pass =
        passes_shuffled shared w.parts (messages_of l.load ++ (together w).inbox) (together then_delivered).inbox (together w).outbox (together w).outbox
        (shuffle-sym (together then_delivered).inbox (messages_of l.load ++ (together w).inbox)
        (in_front (waiting_in w.parts) (messages_in (all_of then_delivered.inboxes)) (messages_of l.load) (messages_in (all_of w.inboxes)) w.parked
        (shuffle-sym (messages_of l.load ++ messages_in (all_of w.inboxes)) (messages_in (all_of then_delivered.inboxes))
        (shuffle-flat (λ (l : Envelope J). messages_of l.load) (l ∷ all_of w.inboxes) (all_of then_delivered.inboxes) envelopes_apart))))
        (same (together w).outbox)

    pub delivers_keep : Keeps shared (messages_of l.load) [] (l ∷ []) 0 w → Keeps shared [] [] [] 0 then_delivered
    delivers_keep k = record {
      all = (delivers_pass k.all).sound;
      shards = k.shards;
      wait = k.wait;
      warehouses = k.warehouses;
      inboxes = length-set w.inboxes l.to (queue_of l.to w.inboxes ++ l ∷ []) ∙ k.inboxes;
      outboxes = k.outboxes;
      own = own_put w.inboxes l.to (queue_of l.to w.inboxes ++ l ∷ []) there k.own (All-append (IsTo l.to) (queue_of l.to w.inboxes) (l ∷ []) (k.own l.to) (one_to l));
      outgoing = k.outgoing;
      located = located_again 0 w.placements (l ∷ envelopes_of_all w) (envelopes_of_all then_delivered) (0 + arrived_in w) (0 + arrived_in then_delivered) (map home_of_message w.parked) (map home_of_message w.parked)
          (shuffle-behind (envelopes_out (all_of w.outboxes)) (l ∷ all_of w.inboxes) (all_of then_delivered.inboxes) envelopes_apart)
          refl (same (map home_of_message w.parked)) k.located;
      no_inbox = k.no_inbox;
      no_outbox = k.no_outbox;
    }
      where
        one_to : (l : Envelope J) → All (IsTo l.to) (l ∷ [])
        one_to l = All-cons (IsTo l.to) l [] refl (All-nil (IsTo l.to))
