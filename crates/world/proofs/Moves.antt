-- What the steps of a move do to a world.
use Rattle.std.proofs.Common.{◌≡◌, ◌≢◌, ◌⊎◌, inl, ℕ, ◌+◌, ◌-◌, ◌<◌, ◌≤◌, zero, suc, Bool, true, false, cond, List, [], ◌∷◌, ◌++◌, length, map, Option, Some, None, refl, sym, ◌∙◌, ap, subst, append_assoc, append-nil, arith}
use Rattle.std.specs.Prelude.{All, IsTrue, replicate, slice_index_or, slice_set}
use Rattle.std.specs.List.{sum_by}
use Rattle.std.proofs.lemmas.Bool.{eqb-false}
use Rattle.std.proofs.lemmas.Grind.{flat_map-append}
use Rattle.std.proofs.lemmas.Map.Views.{exact_unsigned_eq}
use Rattle.std.proofs.lemmas.List.{map-append}
use Rattle.std.proofs.lemmas.List.Elements.{All-append, All-cons, All-nil}
use Rattle.std.proofs.lemmas.List.Sums.{sum_by-cons}
use Rattle.partitions.specs.Parts.{SharedTables}
use Rattle.history.specs.declared.event.Event.{Event}
use Rattle.history.specs.declared.event.Event.TheVariants.{Order, Take, Send}
use Rattle.history.specs.declared.event.EventAnswer.{EventAnswer}
use Rattle.history.specs.declared.event.EventAnswer.TheVariants.{Ordered, Took}
use Rattle.history.specs.Laws.{IsQuiet}
use Rattle.range_moves.specs.declared.order.MoveOrder.{MoveOrder}
use Rattle.range_moves.specs.declared.order.Moving.{Moving}
use Rattle.range_moves.specs.declared.order.Moving.TheVariants as moving
use Rattle.range_moves.specs.declared.placement.Placement.{Placement}
use Rattle.range_moves.specs.Placements.{PlacementsView, IsPlacementOf, IsWarehouse, comes_to, fetched_from, placement_installed, placement_moved, placement_of, placement_taken, is_at, is_away, place_of, route_of, with_placement}
use Rattle.range_moves.specs.Orders.{size_of}
use Rattle.range_moves.specs.Traffic.{ComesTo, Dispatch, MessageToSlice, IsLocatedWith, Knows, KnowsOf}
use Rattle.range_moves.proofs.Located as located
use Rattle.range_moves.proofs.Knowing.{placement_same, placements_same, is_itself, place_other}
use Rattle.world.specs.declared.flight.Item.{Item}
use Rattle.world.specs.declared.flight.Item.TheVariants as item
use Rattle.world.specs.declared.flight.Envelope.{Envelope}
use Rattle.world.specs.declared.flight.Load.TheVariants.{Work, Move}
use Rattle.world.specs.declared.flight.Message.{Message}
use Rattle.world.specs.declared.flight.Message.TheVariants as message
use Rattle.world.specs.declared.flight.Outgoing.{Outgoing}
use Rattle.world.specs.declared.flight.Outgoing.TheVariants as outgoing
use Rattle.world.specs.declared.world.Core.{Core}
use Rattle.world.specs.declared.world.Parts.{Parts}
use Rattle.world.specs.Happening.{CanOrder, answer_arrived, placements_begun, moves, ordering, outgoing_for, posting, posts_begun}
use Rattle.world.specs.Envelopes.{IsOutgoing, arrived_of, going_in, going_of, goes, home_of_message, is_at_home, items_in, envelope, envelopes_out, messages_in, parked_else, parked_for, sent_in, sent_of, to_itself}
use Rattle.world.specs.Queues.{all_of, queue_of}
use Rattle.world.specs.Shards.{waiting_in}
use Rattle.world.specs.Together.{IsSound, arrived_in, envelopes_of_all, together}
use Rattle.world.proofs.Executing.{GoesOnWith, quietly, relocated}
use Rattle.world.proofs.Passes.{Passes, passes-is, passes-trans, passes_on, passes_shuffled}
use Rattle.world.proofs.Posting.{Keeps, delivers_keep, delivers_pass, holding, left_out, posts_keep, posts_pass, sends_passes, takes_envelope, takes_passes, takes_outgoing, there_in}
use Rattle.world.proofs.Reordered.{queued}
use Rattle.world.proofs.Shuffles.{Shuffle, same, swap, then, shuffle-cons, shuffle-front, shuffle-map, shuffle-middle, shuffle-order, shuffle-sym}

-- ---- what begins to move

pub begun_executors : (n w_id to : ℕ) (h : PlacementsView) → (placements_begun n w_id to h).executors ≡ h.executors
begun_executors zero w_id to h = refl
begun_executors (suc n) w_id to h = begun_executors n (w_id + 1) to (with_placement h w_id (placement_moved (placement_of h w_id) to))

begun_placements : (n w_id to : ℕ) (h : PlacementsView) → length (placements_begun n w_id to h).placements ≡ length h.placements
begun_placements zero w_id to h = refl
begun_placements (suc n) w_id to h =
    begun_placements n (w_id + 1) to (with_placement h w_id (placement_moved (placement_of h w_id) to)) ∙ placements_same h w_id (placement_moved (placement_of h w_id) to)

-- those that go from an executor, by what they find
goes_from : (there : Bool) (from other : ℕ) → cond there None (Some other) ≡ Some from → from ≡ other
goes_from true from other is = absurd (cc)
goes_from false from other is = cc

-- after one warehouse has begun, the others rest yet
rests_next : (h : PlacementsView) (w_id to : ℕ) → 1 ≤ w_id → ((v : ℕ) → w_id ≤ v → is_away (place_of h v) ≡ false)
    → (v : ℕ) → w_id + 1 ≤ v → is_away (place_of (with_placement h w_id (placement_moved (placement_of h w_id) to)) v) ≡ false
rests_next h w_id to first rests v above =
    let other : v ≢ w_id = λ e. absurd (omega (arith, e, above)) in
    ap (λ p. is_away p) (place_other h w_id (placement_moved (placement_of h w_id) to) v first other) ∙ rests v (omega (arith, above))

-- nothing of these is on its way any more
none_going : (h : PlacementsView) (gs going : List MessageToSlice) (sent : List Dispatch) (arrived : ℕ) (parked : List ℕ) → IsLocatedWith 0 h (gs ++ going) sent arrived parked → IsLocatedWith 0 h going sent arrived parked
none_going h [] going sent arrived parked kept = kept
none_going h (g ∷ gs) going sent arrived parked kept = none_going h gs going sent arrived parked (located.going_less 0 h (gs ++ going) sent arrived parked g kept)

arrived_quiet : (executor more : ℕ) → IsQuiet (Send executor) (answer_arrived more)
arrived_quiet executor zero = tt
arrived_quiet executor (suc more) = tt

module _ (J : Type 0) where
  going_more : (from : Option ℕ) (w_id to : ℕ) (more : List (Outgoing J)) → going_in (envelopes_out more) ≡ [] → going_in (envelopes_out (outgoing_for from w_id to ∷ more)) ≡ []
  going_more None w_id to more is = is
  going_more (Some from) w_id to more is = is

  begun_going : (n w_id to : ℕ) (h : PlacementsView) → going_in {J = J} (envelopes_out (posts_begun n w_id to h)) ≡ []
  begun_going zero w_id to h = refl
  begun_going (suc n) w_id to h =
      let next : PlacementsView = with_placement h w_id (placement_moved (placement_of h w_id) to) in
      going_more (fetched_from (place_of h w_id) to) w_id to (posts_begun n (w_id + 1) to next) (begun_going n (w_id + 1) to next)

  begun_posts : (n w_id to : ℕ) (h : PlacementsView) → length (posts_begun {J = J} n w_id to h) ≡ n
  begun_posts zero w_id to h = refl
  begun_posts (suc n) w_id to h = omega (arith, begun_posts n (w_id + 1) to (with_placement h w_id (placement_moved (placement_of h w_id) to)))

  -- one more warehouse has begun, and is as the others
  keep_more : (from : Option ℕ) (w_id to : ℕ) (posts : List (Outgoing J)) (h : PlacementsView) (going : List MessageToSlice) (sent : List Dispatch) (arrived : ℕ) (parked : List ℕ)
      → ((from ≡ None) → IsLocatedWith 0 h going (sent_in (envelopes_out posts) ++ sent) (sum_by arrived_of posts + suc arrived) parked)
      → ((other : ℕ) → from ≡ Some other → IsLocatedWith 0 h going (sent_in (envelopes_out posts) ++ record { to = other; what = moving.Fetch w_id to } ∷ sent) (sum_by arrived_of posts + arrived) parked)
      → IsLocatedWith 0 h going (sent_in (envelopes_out (outgoing_for from w_id to ∷ posts)) ++ sent) (sum_by arrived_of (outgoing_for from w_id to ∷ posts) + arrived) parked
  keep_more None w_id to posts h going sent arrived parked there fetched =
      let p : Outgoing J = outgoing.Arrived in
      subst (λ n. IsLocatedWith 0 h going (sent_in (envelopes_out posts) ++ sent) n parked) (omega (arith, sum_by-cons arrived_of p posts)) (there refl)
  keep_more (Some from) w_id to posts h going sent arrived parked there fetched =
      let d : Dispatch = record { to = from; what = moving.Fetch w_id to } in
      let p : Outgoing J = outgoing.Envelope (envelope from (Move (moving.Fetch w_id to))) in
      let S = sent_in (envelopes_out posts) in
      located.located_same 0 h going going (S ++ d ∷ sent) (d ∷ (S ++ sent)) (sum_by arrived_of (p ∷ posts) + arrived) parked parked
      (shuffle-order going going (same going)) (shuffle-order (S ++ d ∷ sent) (d ∷ (S ++ sent)) (shuffle-middle S (d ∷ []) sent)) (shuffle-order parked parked (same parked))
      (subst (λ m. IsLocatedWith 0 h going (S ++ d ∷ sent) m parked) (omega (arith, sum_by-cons arrived_of p posts)) (fetched from refl))

  -- each step keeps what is kept
  begun_keep : (n w_id to : ℕ) (h : PlacementsView) (going : List MessageToSlice) (sent : List Dispatch) (arrived : ℕ) (parked : List ℕ) → 1 ≤ w_id → w_id + n ≤ length h.placements + 1
      → ((v : ℕ) → w_id ≤ v → is_away (place_of h v) ≡ false) → IsLocatedWith n h going sent arrived parked
      → IsLocatedWith 0 (placements_begun n w_id to h) going (sent_in {J = J} (envelopes_out (posts_begun n w_id to h)) ++ sent) (sum_by arrived_of (posts_begun {J = J} n w_id to h) + arrived) parked
  begun_keep zero w_id to h going sent arrived parked first last rests kept = subst (λ n. IsLocatedWith 0 h going sent n parked) (omega arith) kept
  begun_keep (suc n) w_id to h going sent arrived parked first last rests kept =
      let next : PlacementsView = with_placement h w_id (placement_moved (placement_of h w_id) to) in
      let there : IsWarehouse h w_id = (first, omega (arith, last)) in
      let then_last : w_id + 1 + n ≤ length next.placements + 1 = omega (arith, last, placements_same h w_id (placement_moved (placement_of h w_id) to)) in
      let then_rests = rests_next h w_id to first rests in
      let away = rests w_id (omega arith) in
      keep_more (fetched_from (place_of h w_id) to) w_id to (posts_begun n (w_id + 1) to next) (placements_begun n (w_id + 1) to next) going sent arrived parked
      (λ is. begun_keep n (w_id + 1) to next going sent (suc arrived) parked (omega arith) then_last then_rests
      (located.moved_there n h going sent arrived parked w_id to away there kept is))
      (λ from is. begun_keep n (w_id + 1) to next going (record { to = from; what = moving.Fetch w_id to } ∷ sent) arrived parked (omega arith) then_last then_rests
      (located.moved_from n h going sent arrived parked w_id to away there kept from is))

module _ {J : Type 0} where
  -- what a move puts for a warehouse belongs to no transaction
  no_items : (from : Option ℕ) (w_id to : ℕ) (more : List (Outgoing J)) → items_in more ≡ [] → items_in (outgoing_for from w_id to ∷ more) ≡ []
  no_items None w_id to more is = is
  no_items (Some from) w_id to more is = is

  pub begun_items : (n w_id to : ℕ) (h : PlacementsView) → items_in {J = J} (posts_begun n w_id to h) ≡ []
  begun_items zero w_id to h = refl
  begun_items (suc n) w_id to h =
      let next : PlacementsView = with_placement h w_id (placement_moved (placement_of h w_id) to) in
      no_items (fetched_from (place_of h w_id) to) w_id to (posts_begun n (w_id + 1) to next) (begun_items n (w_id + 1) to next)

  outgoing_more : (executors : ℕ) (from : Option ℕ) (w_id to : ℕ) (more : List (Outgoing J)) → ((other : ℕ) → from ≡ Some other → other < executors)
      → All (IsOutgoing executors) more → All (IsOutgoing executors) (outgoing_for from w_id to ∷ more)
  outgoing_more executors None w_id to more below rest = All-cons (IsOutgoing executors) _ more tt rest
  outgoing_more executors (Some from) w_id to more below rest = All-cons (IsOutgoing executors) _ more (below from refl) rest

  begun_outgoing : (executors n w_id to : ℕ) (h : PlacementsView) → 1 ≤ w_id → ((v : ℕ) → w_id ≤ v → route_of h v < executors) → All (IsOutgoing {J = J} executors) (posts_begun n w_id to h)
  begun_outgoing executors zero w_id to h first below = All-nil (IsOutgoing executors)
  begun_outgoing executors (suc n) w_id to h first below =
      let next : PlacementsView = with_placement h w_id (placement_moved (placement_of h w_id) to) in
      let rest : All (IsOutgoing {J = J} executors) (posts_begun n (w_id + 1) to next) =
      begun_outgoing executors n (w_id + 1) to next (omega arith)
      (λ v above. let other : v ≢ w_id = λ e. absurd (omega (arith, e, above)) in
      subst (λ p. comes_to p < executors) (sym (place_other h w_id (placement_moved (placement_of h w_id) to) v first other)) (below v (omega (arith, above)))) in
      outgoing_more executors (fetched_from (place_of h w_id) to) w_id to (posts_begun n (w_id + 1) to next)
      (λ from is. subst (λ n. n < executors) (sym (goes_from (is_at (place_of h w_id) to) from (comes_to (place_of h w_id)) is)) (below w_id (omega arith))) rest

  -- ---- those that were parked

  -- those for a slice, and the others
  by_home_more : (b : Bool) (m : Message J) (ms here else : List (Message J)) → Shuffle ms (here ++ else) → Shuffle (m ∷ ms) (cond b (m ∷ here) here ++ cond (cond b false true) (m ∷ else) else)
  by_home_more true m ms here else rest = shuffle-cons m ms (here ++ else) rest
  by_home_more false m ms here else rest =
      then (m ∷ ms) (m ∷ (here ++ else)) (here ++ m ∷ else) (shuffle-cons m ms (here ++ else) rest) (shuffle-sym (here ++ m ∷ else) (m ∷ (here ++ else)) (shuffle-middle here (m ∷ []) else))

  by_home : (w_id : ℕ) (ms : List (Message J)) → Shuffle ms (parked_for w_id ms ++ parked_else w_id ms)
  by_home w_id [] = same []
  by_home w_id (m ∷ ms) = by_home_more (is_at_home w_id m) m ms (parked_for w_id ms) (parked_else w_id ms) (by_home w_id ms)

  -- all of these are of one warehouse
  homes_here_more : (w_id : ℕ) (b : Bool) (m : Message J) (here : List (Message J)) → is_at_home w_id m ≡ b → map home_of_message here ≡ replicate (length here) w_id
      → map home_of_message (cond b (m ∷ here) here) ≡ replicate (length (cond b (m ∷ here) here)) w_id
  homes_here_more w_id true m here is rest = λ i. exact_unsigned_eq (home_of_message m) w_id is i ∷ rest i
  homes_here_more w_id false m here is rest = rest

  homes_here : (w_id : ℕ) (ms : List (Message J)) → map home_of_message (parked_for w_id ms) ≡ replicate (length (parked_for w_id ms)) w_id
  homes_here w_id [] = refl
  homes_here w_id (m ∷ ms) = homes_here_more w_id (is_at_home w_id m) m (parked_for w_id ms) refl (homes_here w_id ms)

  homes_else_more : (w_id : ℕ) (b : Bool) (m : Message J) (else : List (Message J)) → is_at_home w_id m ≡ b → All (λ v. v ≢ w_id) (map home_of_message else)
      → All (λ v. v ≢ w_id) (map home_of_message (cond (cond b false true) (m ∷ else) else))
  homes_else_more w_id true m else is rest = rest
  homes_else_more w_id false m else is rest = All-cons (λ v. v ≢ w_id) (home_of_message m) (map home_of_message else) (eqb-false (home_of_message m) w_id is) rest

  homes_else : (w_id : ℕ) (ms : List (Message J)) → All (λ v. v ≢ w_id) (map home_of_message (parked_else w_id ms))
  homes_else w_id [] = All-nil (λ v. v ≢ w_id)
  homes_else w_id (m ∷ ms) = homes_else_more w_id (is_at_home w_id m) m (parked_else w_id ms) refl (homes_else w_id ms)

  -- they go to an executor that knows of the slice
  module _ (h : PlacementsView) (executor w_id : ℕ) (knows : Knows h executor w_id) where
    one_knows : (m : Message J) → home_of_message m ≡ w_id → All (KnowsOf h) (goes executor m)
    one_knows (message.Start flow works) is = All-nil (KnowsOf h)
    one_knows (message.Act act) is = All-cons (KnowsOf h) _ [] (subst (Knows h executor) (sym is) knows) (All-nil (KnowsOf h))
    one_knows (message.Settle slot claims) is = All-cons (KnowsOf h) _ [] (subst (Knows h executor) (sym is) knows) (All-nil (KnowsOf h))
    one_knows (message.Undo slot claims) is = All-cons (KnowsOf h) _ [] (subst (Knows h executor) (sym is) knows) (All-nil (KnowsOf h))

    more_know : (b : Bool) (m : Message J) (here : List (Message J)) → is_at_home w_id m ≡ b → All (KnowsOf h) (going_in (envelopes_out (to_itself executor here)))
        → All (KnowsOf h) (going_in (envelopes_out (to_itself executor (cond b (m ∷ here) here))))
    more_know true m here is rest =
        All-append (KnowsOf h) (goes executor m) (going_in (envelopes_out (to_itself executor here))) (one_knows m (exact_unsigned_eq (home_of_message m) w_id is)) rest
    more_know false m here is rest = rest

    itself_knows : (ms : List (Message J)) → All (KnowsOf h) (going_in (envelopes_out (to_itself executor (parked_for w_id ms))))
    itself_knows [] = All-nil (KnowsOf h)
    itself_knows (m ∷ ms) = more_know (is_at_home w_id m) m (parked_for w_id ms) refl (itself_knows ms)

  pub itself_items : (executor : ℕ) (ms : List (Message J)) → items_in (to_itself executor ms) ≡ map item.Push ms
  itself_items executor [] = refl
  itself_items executor (m ∷ ms) = ap (λ (is : List (Item J)). item.Push m ∷ is) (itself_items executor ms)

  itself_sent : (executor : ℕ) (ms : List (Message J)) → sent_in (envelopes_out (to_itself executor ms)) ≡ []
  itself_sent executor [] = refl
  itself_sent executor (m ∷ ms) = itself_sent executor ms

  itself_arrived : (executor : ℕ) (ms : List (Message J)) → sum_by arrived_of (to_itself executor ms) ≡ 0
  itself_arrived executor [] = refl
  itself_arrived executor (m ∷ ms) = omega (arith, sum_by-cons arrived_of (outgoing.Envelope (envelope executor (Work m))) (to_itself executor ms), itself_arrived executor ms)

  itself_outgoing : (executors executor : ℕ) (ms : List (Message J)) → executor < executors → All (IsOutgoing executors) (to_itself executor ms)
  itself_outgoing executors executor [] below = All-nil (IsOutgoing executors)
  itself_outgoing executors executor (m ∷ ms) below = All-cons (IsOutgoing executors) _ _ below (itself_outgoing executors executor ms below)

  -- messages that have come are to be pushed, one after another
  all_on : (shared : SharedTables) (w : Parts J) (ks ms : List (Message J)) (is : List (Item J)) → Passes shared (queued w (ks ++ ms) is) (queued w ms (is ++ map item.Push ks))
  all_on shared w [] ms is = passes-is shared (queued w ms is) (queued w ms (is ++ [])) (ap (λ (q : List (Item J)). queued w ms q) (sym (append-nil is)))
  all_on shared w (k ∷ ks) ms is =
      let first = queued w (k ∷ (ks ++ ms)) is in
      let mid = queued w (ks ++ ms) (is ++ item.Push k ∷ []) in
      let last = queued w ms ((is ++ item.Push k ∷ []) ++ map item.Push ks) in
      let end = queued w ms (is ++ item.Push k ∷ map item.Push ks) in
      passes-trans shared first mid end (passes_on shared w k (ks ++ ms) is)
      (passes-trans shared mid last end (all_on shared w ks ms (is ++ item.Push k ∷ []))
      (passes-is shared last end (ap (λ (q : List (Item J)). queued w ms q) (append_assoc is (item.Push k ∷ []) (map item.Push ks)))))

  -- ---- the events

  -- a sound world has nothing in hand
  pub sound_kept : (shared : SharedTables) (w : Core J) → IsSound shared w → Keeps shared [] [] [] 0 w
  sound_kept shared w h = record {
    all = h.all;
    shards = h.shards;
    wait = h.wait;
    warehouses = h.warehouses;
    inboxes = h.inboxes;
    outboxes = h.outboxes;
    own = h.own;
    outgoing = h.outgoing;
    located = subst (λ n. IsLocatedWith 0 w.placements (going_in (envelopes_of_all w)) (sent_in (envelopes_of_all w)) n (map home_of_message w.parked)) (omega arith) h.located;
    no_inbox = h.no_inbox;
    no_outbox = h.no_outbox;
  }

  -- an event that changes nothing and reports nothing
  pub stays_quiet : (shared : SharedTables) (w : Core J) (h : IsSound shared w) (event : Event) (answer : EventAnswer) → IsQuiet event answer → GoesOnWith shared w event answer w
  stays_quiet shared w h event answer quiet = quietly shared w w event answer quiet (sound_kept shared w h) (record { sound = h.all; fits = λ opening history f. f })

  -- a move is ordered
  pub orders : (shared : SharedTables) (w : Core J) (h : IsSound shared w) (order : MoveOrder) (new : Core J) → CanOrder order w → new ≡ ordering order w → GoesOnWith shared w (Order order) Ordered new
  orders shared w h order new can is =
      let l : Envelope J = envelope order.to (Move (moving.Order order)) in
      let placements : PlacementsView = record w.placements { awaited = size_of order } in
      let mid : Core J = record w { placements = placements } in
      let there : order.to < length w.inboxes = omega (arith, can.within.there, h.inboxes) in
      let L = envelopes_of_all w in
      let begun = located.ordered w.placements (going_in L) (sent_in L) (arrived_in w) (map home_of_message w.parked) order can.none can.within h.located in
      let ready : Keeps shared [] [] (l ∷ []) 0 mid =
      relocated shared w [] [] [] 0 (sound_kept shared w h) placements w.parked refl refl [] [] (l ∷ []) 0 h.all (subst (λ n. IsLocatedWith 0 placements (going_in L) (sent_in (l ∷ L)) n (map home_of_message w.parked)) (omega arith) begun) in
      let keeps = delivers_keep shared mid l there ready in
      subst (λ (v : Core J). GoesOnWith shared w (Order order) Ordered v) (sym is) (quietly shared w (ordering order w) (Order order) Ordered tt keeps (delivers_pass shared mid l there h.all))

  module _ (shared : SharedTables) (w : Core J) (h : IsSound shared w) (below : (w_id : ℕ) → route_of w.placements w_id < w.placements.executors) (executor : ℕ) (rest : List (Envelope J)) where
    abbrev left : Core J
    left = record w { inboxes = slice_set w.inboxes executor rest }

    abbrev L : List (Envelope J)
    L = envelopes_of_all left

    abbrev homes : List ℕ
    homes = map home_of_message w.parked

    -- with an envelope of a move in hand
    module _ (m : Moving) (first : queue_of executor w.inboxes ≡ envelope executor (Move m) ∷ rest) where
      abbrev l : Envelope J
      l = envelope executor (Move m)

      hand : Keeps shared [] [] (l ∷ []) 0 left
      hand = takes_envelope shared w h executor l rest first

      in_hand : Passes shared (together w) (together left)
      in_hand = takes_passes shared w h executor l rest first

      there : executor < length w.outboxes
      there = let inbox = there_in shared w h executor l rest first in omega (arith, inbox, h.inboxes, h.outboxes)

      executor_is : executor < w.placements.executors
      executor_is = omega (arith, there, h.outboxes)

      -- what the move has put goes to the outbox
      module _ (placements : PlacementsView) (parked : List (Message J)) (posts : List (Outgoing J)) (executors : placements.executors ≡ w.placements.executors) (many : length placements.placements ≡ length w.placements.placements) where
        abbrev mid : Core J
        mid = record left { placements = placements; parked = parked }

        posts_on : (new : Core J) → new ≡ posting executor posts mid → Passes shared (together left) (holding [] (items_in posts) mid)
            → IsLocatedWith 0 placements (going_in (envelopes_out posts) ++ going_in L) (sent_in (envelopes_out posts) ++ sent_in L) (sum_by arrived_of posts + arrived_in left) (map home_of_message parked)
            → All (IsOutgoing placements.executors) posts → GoesOnWith shared w (Take executor) Took new
        posts_on new is passes kept fine =
            let more = envelopes_out posts in
            let going : going_in (more ++ L) ≡ going_in more ++ going_in L = flat_map-append (λ (l : Envelope J). going_of l.to l.load) more L in
            let sent : sent_in (more ++ L) ≡ sent_in more ++ sent_in L = flat_map-append (λ (l : Envelope J). sent_of l.to l.load) more L in
            let all : Passes shared (together w) (holding [] (items_in posts) mid) = passes-trans shared (together w) (together left) (holding [] (items_in posts) mid) in_hand passes in
            let ready : Keeps shared [] (items_in posts) more (sum_by arrived_of posts) mid =
            relocated shared left [] [] (l ∷ []) 0 hand placements parked executors many [] (items_in posts) more (sum_by arrived_of posts) (all h.all).sound
            (subst (λ (gs : List MessageToSlice). IsLocatedWith 0 placements gs (sent_in (more ++ L)) (sum_by arrived_of posts + arrived_in left) (map home_of_message parked)) (sym going)
            (subst (λ (ds : List Dispatch). IsLocatedWith 0 placements (going_in more ++ going_in L) ds (sum_by arrived_of posts + arrived_in left) (map home_of_message parked)) (sym sent) kept)) in
            let keeps = posts_keep shared mid executor posts [] there ready fine in
            let next : Core J = posting executor posts mid in
            subst (λ (v : Core J). GoesOnWith shared w (Take executor) Took v) (sym is)
            (quietly shared w next (Take executor) Took tt keeps (passes-trans shared (together w) (holding [] (items_in posts) mid) (together next) all (posts_pass shared mid executor posts [] there) h.all))

    -- a move begins
    pub begins_move : (order : MoveOrder) → queue_of executor w.inboxes ≡ envelope executor (Move (moving.Order order)) ∷ rest → (new : Core J) → new ≡ moves executor (moving.Order order) left → GoesOnWith shared w (Take executor) Took new
    begins_move order first new is =
        let m : Moving = moving.Order order in
        let kept = (hand m first).located in
        let begun = located.begun w.placements (going_in L) (sent_in L) (0 + arrived_in left) homes executor order kept in
        let n = size_of order in
        let posts : List (Outgoing J) = posts_begun n order.lo order.to w.placements in
        let placements = placements_begun n order.lo order.to w.placements in
        let within = begun.1 in
        let items : items_in posts ≡ [] = begun_items n order.lo order.to w.placements in
        let going : going_in (envelopes_out posts) ≡ [] = begun_going J n order.lo order.to w.placements in
        let after = begun_keep J n order.lo order.to w.placements (going_in L) (sent_in L) (0 + arrived_in left) homes within.first (omega (arith, within.first, within.some, within.last)) (λ v above. begun.5 v) begun.4 in
        posts_on m first placements w.parked posts (begun_executors n order.lo order.to w.placements) (begun_placements n order.lo order.to w.placements) new is
        (passes-is shared (together left) (holding [] (items_in posts) (record left { placements = placements })) (ap (λ (is : List (Item J)). queued w.parts (together left).inbox (is ++ (together left).outbox)) (sym items)))
        (subst (λ (gs : List MessageToSlice). IsLocatedWith 0 placements (gs ++ going_in L) (sent_in (envelopes_out posts) ++ sent_in L) (sum_by arrived_of posts + arrived_in left) homes) (sym going)
        (subst (λ k. IsLocatedWith 0 placements (going_in L) (sent_in (envelopes_out posts) ++ sent_in L) k homes) (omega arith) after))
        (subst (λ k. All (IsOutgoing k) posts) (sym (begun_executors n order.lo order.to w.placements)) (begun_outgoing w.placements.executors n order.lo order.to w.placements within.first (λ v above. below v)))

    -- a slice is taken out
    pub takes_out : All (IsPlacementOf w.placements.executors) w.placements.placements → w.placements.executors ≤ 16 → (w_id to : ℕ) → queue_of executor w.inboxes ≡ envelope executor (Move (moving.Fetch w_id to)) ∷ rest → (new : Core J)
        → new ≡ moves executor (moving.Fetch w_id to) left → GoesOnWith shared w (Take executor) Took new
    takes_out placements_kept few w_id to first new is =
        let m : Moving = moving.Fetch w_id to in
        let kept = (hand m first).located in
        let own = executor_is m first in
        let found = located.fetch_found 0 w.placements (going_in L) (sent_in L) (0 + arrived_in left) homes w_id executor to kept in
        let p : Outgoing J = outgoing.Envelope (envelope to (Move (moving.Parcel w_id))) in
        let placement = placement_taken (placement_of w.placements w_id) executor to in
        let placements = with_placement w.placements w_id placement in
        let taken = located.taken_out 0 w.placements (going_in L) (sent_in L) (0 + arrived_in left) homes w_id executor to placements_kept (omega (arith, own, few)) kept in
        let below_to : to < w.placements.executors = subst (λ n. n < w.placements.executors) (sym found.2) (below w_id) in
        posts_on m first placements w.parked (p ∷ []) refl (placements_same w.placements w_id placement) new is (λ sound. record { sound = sound; fits = λ opening history f. f })
        (subst (λ k. IsLocatedWith 0 placements (going_in L) (record { to = to; what = moving.Parcel w_id } ∷ sent_in L) k homes) (omega (arith, sum_by-cons {X = Outgoing J} arrived_of p [])) taken)
        (All-cons (IsOutgoing w.placements.executors) p [] below_to (All-nil (IsOutgoing w.placements.executors)))

    -- a slice is installed
    pub installs : (w_id : ℕ) → queue_of executor w.inboxes ≡ envelope executor (Move (moving.Parcel w_id)) ∷ rest → (new : Core J) → new ≡ moves executor (moving.Parcel w_id) left → GoesOnWith shared w (Take executor) Took new
    installs w_id first new is =
        let m : Moving = moving.Parcel w_id in
        let kept = (hand m first).located in
        let here = parked_for w_id w.parked in
        let else = parked_else w_id w.parked in
        let placement = placement_installed (placement_of w.placements w_id) executor in
        let placements = with_placement w.placements w_id placement in
        let g : MessageToSlice = record { to = executor; w_id = w_id } in
        let found = located.parcel_found 0 w.placements (going_in L) (sent_in L) (0 + arrived_in left) homes w_id executor kept in
        let parts : Shuffle homes (replicate (length here) w_id ++ map home_of_message else) =
        subst (λ (q : List ℕ). Shuffle homes (q ++ map home_of_message else)) (homes_here w_id w.parked)
        (subst (λ (q : List ℕ). Shuffle homes q) (map-append home_of_message here else) (shuffle-map home_of_message w.parked (here ++ else) (by_home w_id w.parked))) in
        let installed = located.installed 0 w.placements (going_in L) (sent_in L) (0 + arrived_in left) homes w_id executor (length here) (map home_of_message else) (homes_else w_id w.parked)
        (shuffle-order homes (replicate (length here) w_id ++ map home_of_message else) parts) kept in
        let less = none_going placements (replicate (length here) g) (going_in L) (sent_in L) (suc (0 + arrived_in left)) (map home_of_message else) installed in
        let knows : Knows placements executor w_id =
        subst (λ (p : Placement). IsTrue (is_at p.place executor) ⊎ (ComesTo p.place executor ⊎ ((to : ℕ) × (slice_index_or p.notes executor None ≡ Some to)))) (sym (placement_same w.placements w_id placement found.0)) (inl (is_itself executor executor refl)) in
        let back : List (Outgoing J) = to_itself executor here in
        let posts : List (Outgoing J) = outgoing.Arrived ∷ back in
        let goings = going_in (envelopes_out back) in
        let more = located.going_more 0 placements (going_in L) (sent_in L) (suc (0 + arrived_in left)) (map home_of_message else) goings (itself_knows placements executor w_id knows w.parked) less in
        let waiting = waiting_in w.parts in
        let come = messages_in (all_of left.inboxes) in
        let items = (together left).outbox in
        let out : Shuffle (waiting ++ (come ++ w.parked)) (here ++ (waiting ++ (come ++ else))) =
        then (waiting ++ (come ++ w.parked)) (waiting ++ (come ++ (here ++ else))) (here ++ (waiting ++ (come ++ else)))
        (shuffle-front waiting (come ++ w.parked) (come ++ (here ++ else)) (shuffle-front come w.parked (here ++ else) (by_home w_id w.parked)))
        (then (waiting ++ (come ++ (here ++ else))) (waiting ++ (here ++ (come ++ else))) (here ++ (waiting ++ (come ++ else)))
        (shuffle-front waiting (come ++ (here ++ else)) (here ++ (come ++ else)) (shuffle-middle come here else)) (shuffle-middle waiting here (come ++ else))) in
        let last : Parts J = holding [] (items_in posts) (record left { placements = placements; parked = else }) in
        let pushed : Parts J = queued w.parts (waiting ++ (come ++ else)) (items ++ map item.Push here) in
        let passes : Passes shared (together left) last =
        passes-trans shared (together left) (queued w.parts (here ++ (waiting ++ (come ++ else))) items) last (passes_shuffled shared w.parts (waiting ++ (come ++ w.parked)) (here ++ (waiting ++ (come ++ else))) items items out (same items))
        (passes-trans shared (queued w.parts (here ++ (waiting ++ (come ++ else))) items) pushed last (all_on shared w.parts here (waiting ++ (come ++ else)) items)
        (passes_shuffled shared w.parts (waiting ++ (come ++ else)) (waiting ++ (come ++ else)) (items ++ map item.Push here) (items_in posts ++ items) (same (waiting ++ (come ++ else)))
        (subst (λ (q : List (Item J)). Shuffle (items ++ map item.Push here) (q ++ items)) (sym (itself_items executor here)) (swap items (map item.Push here))))) in
        let own = executor_is m first in
        posts_on m first placements else posts refl (placements_same w.placements w_id placement) new is passes
        (subst (λ (ds : List Dispatch). IsLocatedWith 0 placements (goings ++ going_in L) (ds ++ sent_in L) (sum_by arrived_of posts + arrived_in left) (map home_of_message else)) (sym (itself_sent executor here))
        (subst (λ k. IsLocatedWith 0 placements (goings ++ going_in L) (sent_in L) k (map home_of_message else)) (omega (arith, sum_by-cons arrived_of outgoing.Arrived back, itself_arrived executor here)) more))
        (All-cons (IsOutgoing w.placements.executors) outgoing.Arrived back tt (itself_outgoing w.placements.executors executor here own))

  -- ---- a slice has arrived

  pub arrives : (shared : SharedTables) (w : Core J) (h : IsSound shared w) (executor : ℕ) (rest : List (Outgoing J)) → queue_of executor w.outboxes ≡ outgoing.Arrived ∷ rest → (answer : EventAnswer) (new : Core J)
      → answer ≡ answer_arrived (w.placements.awaited - 1) → new ≡ record w { outboxes = slice_set w.outboxes executor rest; placements = record w.placements { awaited = w.placements.awaited - 1 } }
      → (1 ≤ w.placements.awaited) × GoesOnWith shared w (Send executor) answer new
  arrives shared w h executor rest first answer new recorded is =
      let p : Outgoing J = outgoing.Arrived in
      let hand = takes_outgoing shared w h executor p rest first in
      let left = left_out shared w h executor p rest first in
      let L = envelopes_of_all left in
      let homes = map home_of_message w.parked in
      let kept : IsLocatedWith 0 w.placements (going_in L) (sent_in L) (suc (arrived_in left)) homes = subst (λ n. IsLocatedWith 0 w.placements (going_in L) (sent_in L) n homes) (omega arith) hand.located in
      let reported = located.reported w.placements (going_in L) (sent_in L) (arrived_in left) homes kept in
      let placements : PlacementsView = record w.placements { awaited = w.placements.awaited - 1 } in
      let next : Core J = record left { placements = placements } in
      let passes = sends_passes shared w h executor p rest first in
      let keeps : Keeps shared [] [] [] 0 next =
      relocated shared left [] [] [] 1 hand placements w.parked refl refl [] [] [] 0 (passes h.all).sound (subst (λ n. IsLocatedWith 0 placements (going_in L) (sent_in L) n homes) (omega arith) reported.1) in (
        reported.0,
        subst (λ (v : Core J). GoesOnWith shared w (Send executor) answer v) (sym is)
            (subst (λ a. GoesOnWith shared w (Send executor) a next) (sym recorded) (quietly shared w next (Send executor) (answer_arrived (w.placements.awaited - 1)) (arrived_quiet executor (w.placements.awaited - 1)) keeps (passes h.all))),
      )
