-- Each step of a move, and of messages for slices, keeps what is kept of them.
use Rattle.std.proofs.Common.{◌≡◌, ◌≢◌, inl, inr, ℕ, ◌+◌, ◌-◌, ◌<◌, ◌≤◌, ◌==◌, zero, suc, Bool, true, false, List, [], ◌∷◌, ◌++◌, length, replicate, Option, Some, None, refl, sym, ◌∙◌, ap, subst, cond, arith}
use Rattle.std.specs.Prelude.{All, IsTrue, MatchOption, nat_le, slice_index_or, slice_set}
use Rattle.std.specs.List.Sorted.{IsPermutation}
use Rattle.std.proofs.lemmas.Bool.{eqb-false, leb-false, leb-true}
use Rattle.std.proofs.lemmas.List.{get_or-replicate, get_or-set_same, get_or-set_other}
use Rattle.std.proofs.lemmas.List.Elements.{All-append, All-cons, All-head, All-nil, All-replicate, All-tail}
use Rattle.std.proofs.lemmas.List.Sorted.{All-permutation, sum_by-IsPermutation}
use Rattle.std.proofs.lemmas.Map.Views.{exact_unsigned_eq}
use Rattle.std.proofs.Math.ListN.{get_or-eq_default}
use Rattle.routing.specs.Routes.{Routes, executor_of}
use Rattle.range_moves.specs.declared.placement.Whereabouts.{Whereabouts}
use Rattle.range_moves.specs.declared.placement.Whereabouts.TheVariants.{Rests, Leaves, Travels}
use Rattle.range_moves.specs.declared.placement.Placement.{Placement}
use Rattle.range_moves.specs.declared.placement.Found.TheVariants.{Here, Went, Unknown}
use Rattle.range_moves.specs.declared.order.MoveOrder.{MoveOrder}
use Rattle.range_moves.specs.declared.order.Moving.TheVariants.{Order, Fetch, Parcel}
use Rattle.range_moves.specs.Orders.{IsWithin, size_of}
use Rattle.range_moves.specs.Placements.{PlacementsView, IsPlacementOf, IsOpenedBy, IsWarehouse, at_home, comes_to, fetched_from, found_by, found_noted, placement_installed, placement_moved, placement_of, placement_taken, is_at, is_away, note_of, place_of, with_placement}
use Rattle.range_moves.specs.Traffic.{Dispatch, MessageToSlice, IsAwayFrom, IsLocatedWith, IsSentRight, Knows, KnowsOf, brings, reports_of}
use Rattle.range_moves.proofs.Knowing.{KnowsIn, all_know, by_bool, by_knowing, by_warehouse, placement_same, placements_same, installed_knows, is_itself, kept_placement, moved_knows, not_both, place_same, place_other, still_away, still_noted, taken_knows, warehouse_with}
use Rattle.range_moves.proofs.Sendings.{all_begun, all_right, bringing, few_reports, is_away_from, is_other, no_more, none_sent, one_more, reports, reports-cons, still_once, to_bring}

-- ---- another order, and other messages

-- the messages in flight and those that are parked may be listed in any order
pub located_same : (more : ℕ) (h : PlacementsView) (going going' : List MessageToSlice) (sent sent' : List Dispatch) (moved : ℕ) (parked parked' : List ℕ)
    → IsPermutation going going' → IsPermutation sent sent' → IsPermutation parked parked'
    → IsLocatedWith more h going sent moved parked → IsLocatedWith more h going' sent' moved parked'
located_same more h going going' sent sent' moved parked parked' goings sents parkeds w = record {
  knows = All-permutation (KnowsOf h) going going' goings w.knows;
  noted = w.noted;
  right = All-permutation (IsSentRight h) sent sent' sents w.right;
  once = λ v there. sum_by-IsPermutation (λ d. cond (brings v d.what) 1 0) sent sent' sents ∙ w.once v there;
  awaited = w.awaited ∙ ap (λ n. more + (moved + n)) (sym (sum_by-IsPermutation (λ d. reports_of d.what) sent sent' sents));
  few = w.few;
  away = All-permutation (IsAwayFrom h) parked parked' parkeds w.away;
}

-- what an executor that has not got the slice finds noted
went : (here : Bool) (left : Option ℕ) (to : ℕ) → cond here Here (found_noted left) ≡ Went to → left ≡ Some to
went true left to found = absurd (cc)
went false None to found = absurd (cc)
went false (Some other) to found = cc

unknown : (here : Bool) (left : Option ℕ) → cond here Here (found_noted left) ≡ Unknown → (here ≡ false) × (left ≡ None)
unknown true left found = absurd (cc)
unknown false None found = (refl, refl)
unknown false (Some other) found = absurd (cc)

-- with other messages for slices
with_going : (more : ℕ) (h : PlacementsView) (going going' : List MessageToSlice) (sent : List Dispatch) (moved : ℕ) (parked : List ℕ)
    → All (KnowsOf h) going' → IsLocatedWith more h going sent moved parked → IsLocatedWith more h going' sent moved parked
with_going more h going going' sent moved parked knows w =
    record { knows = knows; noted = w.noted; right = w.right; once = w.once; awaited = w.awaited; few = w.few; away = w.away }

module _ (more : ℕ) (h : PlacementsView) (going : List MessageToSlice) (sent : List Dispatch) (moved : ℕ) (parked : List ℕ) where
  -- a message arrives at its receiver
  pub going_less : (g : MessageToSlice) → IsLocatedWith more h (g ∷ going) sent moved parked → IsLocatedWith more h going sent moved parked
  going_less g w = with_going more h (g ∷ going) going sent moved parked (All-tail (KnowsOf h) g going w.knows) w

  -- more messages are sent, to executors that know of the slices
  pub going_more : (gs : List MessageToSlice) → All (KnowsOf h) gs → IsLocatedWith more h going sent moved parked → IsLocatedWith more h (gs ++ going) sent moved parked
  going_more gs know w = with_going more h going (gs ++ going) sent moved parked (All-append (KnowsOf h) gs going know w.knows) w

  -- a message whose slice has left goes where the slice went
  pub forwarded : (executor w_id to : ℕ) → found_by h executor w_id ≡ Went to
      → IsLocatedWith more h (record { to = executor; w_id = w_id } ∷ going) sent moved parked
      → IsLocatedWith more h (record { to = to; w_id = w_id } ∷ going) sent moved parked × (to < h.executors)
  forwarded executor w_id to found w =
      let noted = w.noted executor w_id to (went (is_at (place_of h w_id) executor) (note_of h executor w_id) to found) in
      let g : MessageToSlice = record { to = executor; w_id = w_id } in
      let g' : MessageToSlice = record { to = to; w_id = w_id } in (
        with_going more h (g ∷ going) (g' ∷ going) sent moved parked (All-cons (KnowsOf h) g' going noted.0 (All-tail (KnowsOf h) g going w.knows)) w,
        noted.1,
      )

  -- one whose slice is on its way there is parked
  pub parked_more : (executor w_id : ℕ) → found_by h executor w_id ≡ Unknown
      → IsLocatedWith more h (record { to = executor; w_id = w_id } ∷ going) sent moved parked → IsLocatedWith more h going sent moved (w_id ∷ parked)
  parked_more executor w_id found w =
      let g : MessageToSlice = record { to = executor; w_id = w_id } in
      let not = unknown (is_at (place_of h w_id) executor) (note_of h executor w_id) found in
      let elsewhere = not.0 in
      let none = not.1 in
      let away : IsAwayFrom h w_id = by_knowing (place_of h w_id) (placement_of h w_id).notes executor (All-head (KnowsOf h) g going w.knows) (λ at. absurd (cc)) (λ comes. comes.0) (λ to noted. absurd (cc)) in
      record {
        knows = All-tail (KnowsOf h) g going w.knows;
        noted = w.noted;
        right = w.right;
        once = w.once;
        awaited = w.awaited;
        few = w.few;
        away = All-cons (IsAwayFrom h) w_id parked away w.away;
      }

  -- there is no more of a move than there are warehouses
  pub few_sent : IsLocatedWith more h going sent moved parked → length sent + moved ≤ length h.placements
  few_sent w = let sum = w.awaited in let most = w.few in omega (arith, sum, most, few_reports h sent w.right)

-- ---- a move is ordered, and begins

module _ (h : PlacementsView) (going : List MessageToSlice) (sent : List Dispatch) (moved : ℕ) (parked : List ℕ) where
  -- where no move is outstanding, nothing of one is in flight
  pub nothing_sent : h.awaited ≡ 0 → IsLocatedWith 0 h going sent moved parked → (sent ≡ []) × (moved ≡ 0)
  nothing_sent none w =
      let sum = w.awaited in
      (none_sent h sent w.right (omega (arith, sum, none)), omega (arith, sum, none))

  -- a move is ordered
  pub ordered : (order : MoveOrder) → h.awaited ≡ 0 → IsWithin (length h.placements) h.executors order → IsLocatedWith 0 h going sent moved parked
      → IsLocatedWith 0 (record h { awaited = size_of order }) going (record { to = order.to; what = Order order } ∷ sent) moved parked
  ordered order none within w =
      let nothing = nothing_sent none w in
      let d : Dispatch = record { to = order.to; what = Order order } in
      let h' : PlacementsView = record h { awaited = size_of order } in
      let sum = reports-cons d sent in
      let zero : reports sent ≡ 0 = ap (λ (ds : List Dispatch). reports ds) nothing.0 in
      let unmoved = nothing.1 in
      record {
        knows = w.knows;
        noted = w.noted;
        right = All-cons (IsSentRight h') d sent (refl, (within, refl)) (subst (λ (ds : List Dispatch). All (IsSentRight h') ds) (sym nothing.0) (All-nil (IsSentRight h')));
        once = λ v there. no_more v d sent refl ∙ w.once v there;
        awaited = omega (arith, sum, zero, unmoved);
        few = omega (arith, within.first, within.some, within.last);
        away = w.away;
      }

  -- it begins: nothing else of it was in flight, and each slice rests
  pub begun : (to : ℕ) (order : MoveOrder) → IsLocatedWith 0 h going (record { to = to; what = Order order } ∷ sent) moved parked
      → (to ≡ order.to) × (IsWithin (length h.placements) h.executors order) × (sent ≡ []) × (moved ≡ 0) × IsLocatedWith (size_of order) h going sent moved parked
      × ((w_id : ℕ) → is_away (place_of h w_id) ≡ false)
  begun to order w =
      let d : Dispatch = record { to = to; what = Order order } in
      let right = All-head (IsSentRight h) d sent w.right in
      let rest = All-tail (IsSentRight h) d sent w.right in
      let all = w.awaited in
      let size = right.1.1 in
      let sum = reports-cons d sent in
      let unmoved : moved ≡ 0 = omega (arith, all, size, sum) in
      let none : sent ≡ [] = none_sent h sent rest (omega (arith, all, size, sum)) in
      let once : (v : ℕ) → IsWarehouse h v → bringing v sent ≡ to_bring (place_of h v) = λ v there. sym (no_more v d sent refl) ∙ w.once v there in (
        right.0,
        right.1.0,
        none,
        unmoved,
        record { knows = w.knows; noted = w.noted; right = rest; once = once; awaited = omega (arith, all, sum); few = w.few; away = w.away },
        λ w_id. by_warehouse h w_id
            (λ there. is_away_from (place_of h w_id) (sym (once w_id there) ∙ ap (λ (ds : List Dispatch). bringing w_id ds) none))
            (λ no. ap (λ (x : Placement). is_away x.place) no),
      )

  -- one warehouse more has come to its destination
  pub reported : IsLocatedWith 0 h going sent (suc moved) parked → (1 ≤ h.awaited) × IsLocatedWith 0 (record h { awaited = h.awaited - 1 }) going sent moved parked
  reported w =
      let sum = w.awaited in
      let most = w.few in (
        omega (arith, sum),
        record {
          knows = w.knows;
          noted = w.noted;
          right = all_begun h (h.awaited - 1) sent (omega (arith, sum)) w.right;
          once = w.once;
          awaited = omega (arith, sum);
          few = omega (arith, most);
          away = w.away;
        },
      )

-- ---- the slice of one warehouse

set_none : (notes : List (Option ℕ)) (at : ℕ) → slice_index_or (slice_set notes at None) at None ≡ None
set_none [] at = refl
set_none (at_first ∷ notes) zero = refl
set_none (at_first ∷ notes) (suc at) = set_none notes at

-- a note that is left where one was forgotten was there before
forgotten : (notes : List (Option ℕ)) (at executor to : ℕ) → slice_index_or (slice_set notes at None) executor None ≡ Some to → slice_index_or notes executor None ≡ Some to
forgotten notes at executor to is =
    by_bool (executor == at)
    (λ same.
    let none = set_none notes at in
    let left : slice_index_or (slice_set notes at None) at None ≡ Some to = subst (λ n. slice_index_or (slice_set notes at None) n None ≡ Some to) (exact_unsigned_eq executor at same) is in
    absurd (cc))
    (λ differs. sym (get_or-set_other notes at executor None None (eqb-false executor at differs)) ∙ is)

-- what a test decides of a move
stays : (there : Bool) (place other : Whereabouts) (from : ℕ) → cond there None (Some from) ≡ None → cond there place other ≡ place
stays true place other from none = refl
stays false place other from none = absurd (cc)

leaves : (there : Bool) (place : Whereabouts) (to at from : ℕ) → cond there None (Some at) ≡ Some from → cond there place (Leaves at to) ≡ Leaves from to
leaves true place to at from is = absurd (cc)
leaves false place to at from is = let same : at ≡ from = cc in ap (λ n. Leaves n to) same

by_option : {X : Type 0} (o : Option X) (P : Type 0) (Q : X → Type 0) → (o ≡ None → P) → ((x : X) → o ≡ Some x → Q x) → MatchOption o P Q
by_option None P Q none some = none refl
by_option (Some x) P Q none some = some x refl

behind : {X : Type 0} (P : X → Type 0) (xs ys : List X) → All P (xs ++ ys) → All P ys
behind P [] ys all = all
behind P (x ∷ xs) ys all = behind P xs ys (All-tail P x (xs ++ ys) all)

-- what each step leaves of it
abbrev moved_placement : PlacementsView → ℕ → ℕ → Placement
moved_placement h w_id to = placement_moved (placement_of h w_id) to

abbrev taken_placement : PlacementsView → ℕ → ℕ → ℕ → Placement
taken_placement h w_id here to = placement_taken (placement_of h w_id) here to

abbrev installed_placement : PlacementsView → ℕ → ℕ → Placement
installed_placement h w_id here = placement_installed (placement_of h w_id) here

module _ (more : ℕ) (h : PlacementsView) (going : List MessageToSlice) (sent : List Dispatch) (moved : ℕ) (parked : List ℕ) (w_id : ℕ) where
  -- ---- its move begins at its destination

  module _ (to : ℕ) (rests : is_away (place_of h w_id) ≡ false) (there : IsWarehouse h w_id) (w : IsLocatedWith (suc more) h going sent moved parked) where
    grows : (executor : ℕ) → KnowsIn (place_of h w_id) (placement_of h w_id).notes executor → KnowsIn (moved_placement h w_id to).place (moved_placement h w_id to).notes executor
    grows = moved_knows (place_of h w_id) to (placement_of h w_id).notes rests

    noted_then : (executor v then_to : ℕ) → note_of (with_placement h w_id (moved_placement h w_id to)) executor v ≡ Some then_to → Knows (with_placement h w_id (moved_placement h w_id to)) then_to v × (then_to < h.executors)
    noted_then =
        still_noted h w_id (moved_placement h w_id to) there grows w.noted
        (λ executor then_to is. let was = w.noted executor w_id then_to (forgotten (placement_of h w_id).notes to executor then_to is) in (grows then_to was.0, was.1))

    none_brought : bringing w_id sent ≡ 0
    none_brought = w.once w_id there ∙ ap (λ b. cond b 1 0) rests

    away_then : All (IsAwayFrom (with_placement h w_id (moved_placement h w_id to))) parked
    away_then = still_away h w_id (moved_placement h w_id to) there parked (λ away. not_both (is_away (place_of h w_id)) away rests) w.away

    few_then : h.awaited ≤ length (slice_set h.placements (w_id - 1) (moved_placement h w_id to))
    few_then = subst (λ n. h.awaited ≤ n) (sym (placements_same h w_id (moved_placement h w_id to))) w.few

    -- where it is there, there is a report
    pub moved_there : fetched_from (place_of h w_id) to ≡ None → IsLocatedWith more (with_placement h w_id (placement_moved (placement_of h w_id) to)) going sent (suc moved) parked
    moved_there none =
        let sum = w.awaited in
        let place : place_of (with_placement h w_id (moved_placement h w_id to)) w_id ≡ place_of h w_id = place_same h w_id (moved_placement h w_id to) there ∙ stays (is_at (place_of h w_id) to) (place_of h w_id) (Leaves (comes_to (place_of h w_id)) to) (comes_to (place_of h w_id)) none in
        record {
          knows = all_know h w_id (moved_placement h w_id to) there grows going w.knows;
          noted = noted_then;
          right = all_right h w_id (moved_placement h w_id to) there.0 sent none_brought w.right;
          once = still_once h w_id (moved_placement h w_id to) there.0 sent sent w.once (λ v other. refl) (w.once w_id there ∙ ap (λ p. to_bring p) (sym place));
          awaited = omega (arith, sum);
          few = few_then;
          away = away_then;
        }

    -- else it is fetched
    pub moved_from : (from : ℕ) → fetched_from (place_of h w_id) to ≡ Some from
        → IsLocatedWith more (with_placement h w_id (placement_moved (placement_of h w_id) to)) going (record { to = from; what = Fetch w_id to } ∷ sent) moved parked
    moved_from from some =
        let d : Dispatch = record { to = from; what = Fetch w_id to } in
        let all = w.awaited in
        let sum = reports-cons d sent in
        let place : place_of (with_placement h w_id (moved_placement h w_id to)) w_id ≡ Leaves from to = place_same h w_id (moved_placement h w_id to) there ∙ leaves (is_at (place_of h w_id) to) (place_of h w_id) to (comes_to (place_of h w_id)) from some in
        let one : bringing w_id (d ∷ sent) ≡ 1 = one_more w_id d sent (is_itself w_id w_id refl) ∙ ap (λ n. 1 + n) none_brought in
        record {
          knows = all_know h w_id (moved_placement h w_id to) there grows going w.knows;
          noted = noted_then;
          right = All-cons (IsSentRight (with_placement h w_id (moved_placement h w_id to))) d sent (warehouse_with h w_id (moved_placement h w_id to) w_id there, place) (all_right h w_id (moved_placement h w_id to) there.0 sent none_brought w.right);
          once = still_once h w_id (moved_placement h w_id to) there.0 sent (d ∷ sent) w.once (λ v other. no_more v d sent (is_other w_id v other)) (one ∙ ap (λ p. to_bring p) (sym place));
          awaited = omega (arith, all, sum);
          few = few_then;
          away = away_then;
        }

    pub moved_one : MatchOption (fetched_from (place_of h w_id) to)
        (IsLocatedWith more (with_placement h w_id (placement_moved (placement_of h w_id) to)) going sent (suc moved) parked)
        (λ from. IsLocatedWith more (with_placement h w_id (placement_moved (placement_of h w_id) to)) going (record { to = from; what = Fetch w_id to } ∷ sent) moved parked)
    moved_one =
        by_option (fetched_from (place_of h w_id) to)
        (IsLocatedWith more (with_placement h w_id (moved_placement h w_id to)) going sent (suc moved) parked)
        (λ from. IsLocatedWith more (with_placement h w_id (moved_placement h w_id to)) going (record { to = from; what = Fetch w_id to } ∷ sent) moved parked)
        moved_there moved_from

  -- ---- it is taken out

  -- what a fetch finds
  pub fetch_found : (here to : ℕ) → IsLocatedWith more h going (record { to = here; what = Fetch w_id to } ∷ sent) moved parked
      → IsTrue (is_at (place_of h w_id) here) × IsWarehouse h w_id × (to ≡ comes_to (place_of h w_id)) × (place_of h w_id ≡ Leaves here to)
  fetch_found here to w =
      let right = All-head (IsSentRight h) (record { to = here; what = Fetch w_id to }) sent w.right in (
        ap (λ p. is_at p here) right.1 ∙ is_itself here here refl,
        right.0,
        sym (ap (λ p. comes_to p) right.1),
        right.1,
      )

  module _ (here to : ℕ) (kept : All (IsPlacementOf h.executors) h.placements) (below : here < 16) (w : IsLocatedWith more h going (record { to = here; what = Fetch w_id to } ∷ sent) moved parked) where
    pub taken_out : IsLocatedWith more (with_placement h w_id (placement_taken (placement_of h w_id) here to)) going (record { to = to; what = Parcel w_id } ∷ sent) moved parked
    taken_out =
        let d : Dispatch = record { to = here; what = Fetch w_id to } in
        let d' : Dispatch = record { to = to; what = Parcel w_id } in
        let h' : PlacementsView = with_placement h w_id (taken_placement h w_id here to) in
        let notes : List (Option ℕ) = (placement_of h w_id).notes in
        let right = All-head (IsSentRight h) d sent w.right in
        let there = right.0 in
        let placement = kept_placement h w_id kept there in
        let room : here < length notes = omega (arith, below, placement.notes) in
        let below_to : to < h.executors = subst (λ p. comes_to p < h.executors) right.1 placement.there in
        let grows : (executor : ℕ) → KnowsIn (place_of h w_id) notes executor → KnowsIn (Travels to) (slice_set notes here (Some to)) executor =
        λ executor knows. taken_knows here to notes room executor (subst (λ p. KnowsIn p notes executor) right.1 knows) in
        let all = w.awaited in
        let sum = reports-cons d sent in
        let sum' = reports-cons d' sent in
        let mine = is_itself w_id w_id refl in
        let one : 1 + bringing w_id sent ≡ 1 = sym (one_more w_id d sent mine) ∙ (w.once w_id there ∙ ap (λ p. to_bring p) right.1) in
        let none : bringing w_id sent ≡ 0 = omega (arith, one) in
        let place = place_same h w_id (taken_placement h w_id here to) there in
        record {
          knows = all_know h w_id (taken_placement h w_id here to) there grows going w.knows;
          noted = still_noted h w_id (taken_placement h w_id here to) there grows w.noted
              (λ executor then_to is. by_bool (executor == here)
              (λ same.
              let put = get_or-set_same notes here (Some to) None room in
              let at_it : slice_index_or (slice_set notes here (Some to)) here None ≡ Some then_to =
              subst (λ n. slice_index_or (slice_set notes here (Some to)) n None ≡ Some then_to) (exact_unsigned_eq executor here same) is in
              let same_to : then_to ≡ to = cc in
              (inr (inl (refl, same_to)), subst (λ n. n < h.executors) (sym same_to) below_to))
              (λ differs.
              let was = w.noted executor w_id then_to (sym (get_or-set_other notes here executor (Some to) None (eqb-false executor here differs)) ∙ is) in
              (grows then_to was.0, was.1)));
          right = All-cons (IsSentRight h') d' sent (warehouse_with h w_id (taken_placement h w_id here to) w_id there, place) (all_right h w_id (taken_placement h w_id here to) there.0 sent none (All-tail (IsSentRight h) d sent w.right));
          once = still_once h w_id (taken_placement h w_id here to) there.0 (d ∷ sent) (d' ∷ sent) w.once
              (λ v other. no_more v d' sent (is_other w_id v other) ∙ sym (no_more v d sent (is_other w_id v other)))
              (one_more w_id d' sent mine ∙ (one ∙ ap (λ p. to_bring p) (sym place)));
          awaited = omega (arith, all, sum, sum');
          few = subst (λ n. h.awaited ≤ n) (sym (placements_same h w_id (taken_placement h w_id here to))) w.few;
          away = still_away h w_id (taken_placement h w_id here to) there parked (λ away. refl) w.away;
        }

  -- ---- it is installed

  -- what a parcel finds
  pub parcel_found : (here : ℕ) → IsLocatedWith more h going (record { to = here; what = Parcel w_id } ∷ sent) moved parked → IsWarehouse h w_id × (place_of h w_id ≡ Travels here)
  parcel_found here w = All-head (IsSentRight h) (record { to = here; what = Parcel w_id }) sent w.right

  -- what was parked for it is on its way again
  module _ (here waiting : ℕ) (others : List ℕ) (apart : All (λ v. v ≢ w_id) others) (parts : IsPermutation parked (replicate waiting w_id ++ others))
      (w : IsLocatedWith more h going (record { to = here; what = Parcel w_id } ∷ sent) moved parked) where
    pub installed : IsLocatedWith more (with_placement h w_id (placement_installed (placement_of h w_id) here)) (replicate waiting (record { to = here; w_id = w_id }) ++ going) sent (suc moved) others
    installed =
        let d : Dispatch = record { to = here; what = Parcel w_id } in
        let g : MessageToSlice = record { to = here; w_id = w_id } in
        let h' : PlacementsView = with_placement h w_id (installed_placement h w_id here) in
        let notes : List (Option ℕ) = (placement_of h w_id).notes in
        let right = All-head (IsSentRight h) d sent w.right in
        let there = right.0 in
        let grows : (executor : ℕ) → KnowsIn (place_of h w_id) notes executor → KnowsIn (Rests here) notes executor =
        λ executor knows. installed_knows here notes executor (subst (λ p. KnowsIn p notes executor) right.1 knows) in
        let all = w.awaited in
        let sum = reports-cons d sent in
        let mine = is_itself w_id w_id refl in
        let one : 1 + bringing w_id sent ≡ 1 = sym (one_more w_id d sent mine) ∙ (w.once w_id there ∙ ap (λ p. to_bring p) right.1) in
        let none : bringing w_id sent ≡ 0 = omega (arith, one) in
        let place = place_same h w_id (installed_placement h w_id here) there in
        let known : Knows h' here w_id = subst (λ (x : Placement). KnowsIn x.place x.notes here) (sym (placement_same h w_id (installed_placement h w_id here) there)) (inl (is_itself here here refl)) in
        let away = behind (IsAwayFrom h) (replicate waiting w_id) others (All-permutation (IsAwayFrom h) parked (replicate waiting w_id ++ others) parts w.away) in
        record {
          knows = All-append (KnowsOf h') (replicate waiting g) going (All-replicate (KnowsOf h') waiting g known) (all_know h w_id (installed_placement h w_id here) there grows going w.knows);
          noted = still_noted h w_id (installed_placement h w_id here) there grows w.noted (λ executor then_to is. let was = w.noted executor w_id then_to is in (grows then_to was.0, was.1));
          right = all_right h w_id (installed_placement h w_id here) there.0 sent none (All-tail (IsSentRight h) d sent w.right);
          once = still_once h w_id (installed_placement h w_id here) there.0 (d ∷ sent) sent w.once (λ v other. sym (no_more v d sent (is_other w_id v other))) (none ∙ ap (λ p. to_bring p) (sym place));
          awaited = omega (arith, all, sum);
          few = subst (λ n. h.awaited ≤ n) (sym (placements_same h w_id (installed_placement h w_id here))) w.few;
          away = λ k e less. subst (λ p. IsTrue (is_away p)) (sym (place_other h w_id (installed_placement h w_id here) (slice_index_or others k e) there.0 (apart k e less))) (away k e less);
        }

-- ---- where nothing is in flight

none_parked : (h : PlacementsView) (parked : List ℕ) → ((v : ℕ) → IsWarehouse h v → 0 ≡ to_bring (place_of h v)) → All (IsAwayFrom h) parked → parked ≡ []
none_parked h [] once away = refl
none_parked h (v ∷ parked) once away =
    not_both (is_away (place_of h v)) (All-head (IsAwayFrom h) v parked away)
    (by_warehouse h v (λ there. is_away_from (place_of h v) (sym (once v there))) (λ no. ap (λ (x : Placement). is_away x.place) no))

pub at_rest : (h : PlacementsView) (parked : List ℕ) → IsLocatedWith 0 h [] [] 0 parked → (h.awaited ≡ 0) × (parked ≡ [])
at_rest h parked w = (w.awaited, none_parked h parked w.once w.away)

no_note : (executor : ℕ) → ◌≡◌ {A = Option ℕ} (slice_index_or (replicate 16 None) executor None) None
no_note executor =
    by_bool (nat_le 16 executor)
    (λ past. get_or-eq_default (replicate 16 None) None (leb-true 16 executor past))
    (λ within. get_or-replicate 16 executor None None (leb-false 16 executor within))

-- so it is at the opening
pub opened_located : (routes : Routes) (h : PlacementsView) → IsOpenedBy routes h → IsLocatedWith 0 h [] [] 0 []
opened_located routes h o =
    let home : (v : ℕ) → IsWarehouse h v → placement_of h v ≡ at_home (executor_of routes v) = λ v there. o.each v there.0 (subst (λ n. v ≤ n) o.many there.1) in
    record {
      knows = All-nil (KnowsOf h);
      noted = λ executor v to is. by_warehouse h v
          (λ there.
          let none = no_note executor in
          let said : slice_index_or (replicate 16 None) executor None ≡ Some to = subst (λ (x : Placement). slice_index_or x.notes executor None ≡ Some to) (home v there) is in
          absurd (cc))
          (λ no. let said : None ≡ Some to = subst (λ (x : Placement). slice_index_or x.notes executor None ≡ Some to) no is in absurd (cc));
      right = All-nil (IsSentRight h);
      once = λ v there. sym (ap (λ (x : Placement). to_bring x.place) (home v there));
      awaited = o.awaited;
      few = let none = o.awaited in omega (arith, none);
      away = All-nil (IsAwayFrom h);
    }
