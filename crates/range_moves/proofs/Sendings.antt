-- What is in flight of moves, where a placement is changed.
use Rattle.std.proofs.Common.{◌≡◌, ◌≢◌, ℕ, ◌+◌, ◌<◌, ◌≤◌, ◌==◌, Bool, true, false, List, [], ◌∷◌, length, refl, sym, ◌∙◌, ap, subst, cond, arith}
use Rattle.std.specs.Prelude.{All, count_by}
use Rattle.std.specs.List.{sum_by}
use Rattle.std.proofs.lemmas.Bool.{eqb-false}
use Rattle.std.proofs.lemmas.List.Elements.{All-cons, All-head, All-nil, All-tail}
use Rattle.std.proofs.lemmas.List.Sums.{sum_by-cons}
use Rattle.std.proofs.lemmas.Map.Views.{exact_unsigned_eq}
use Rattle.range_moves.specs.declared.placement.Placement.{Placement}
use Rattle.range_moves.specs.declared.placement.Whereabouts.{Whereabouts}
use Rattle.range_moves.specs.declared.order.MoveOrder.{MoveOrder}
use Rattle.range_moves.specs.declared.order.Moving.{Moving}
use Rattle.range_moves.specs.declared.order.Moving.TheVariants.{Order, Fetch, Parcel}
use Rattle.range_moves.specs.Orders.{IsWithin, size_of}
use Rattle.range_moves.specs.Placements.{PlacementsView, IsWarehouse, is_away, place_of, with_placement}
use Rattle.range_moves.specs.Traffic.{Dispatch, IsRight, IsSentRight, brings, reports_of}
use Rattle.range_moves.proofs.Knowing.{by_bool, placements_same, place_other, warehouse_before, warehouse_with}

-- how many dispatches bring the slice of a warehouse on its way
abbrev pub bringing : ℕ → List Dispatch → ℕ
bringing w_id sent = count_by (λ d. brings w_id d.what) sent

-- how many have to
abbrev pub to_bring : Whereabouts → ℕ
to_bring place = cond (is_away place) 1 0

-- how many reports are to come of all
abbrev pub reports : List Dispatch → ℕ
reports sent = sum_by (λ d. reports_of d.what) sent

pub bringing-cons : (w_id : ℕ) (d : Dispatch) (sent : List Dispatch) → bringing w_id (d ∷ sent) ≡ cond (brings w_id d.what) 1 0 + bringing w_id sent
bringing-cons w_id d sent = sum_by-cons (λ e. cond (brings w_id e.what) 1 0) d sent

pub reports-cons : (d : Dispatch) (sent : List Dispatch) → reports (d ∷ sent) ≡ reports_of d.what + reports sent
reports-cons d sent = sum_by-cons (λ e. reports_of e.what) d sent

pub one_more : (w_id : ℕ) (d : Dispatch) (sent : List Dispatch) → brings w_id d.what ≡ true → bringing w_id (d ∷ sent) ≡ 1 + bringing w_id sent
one_more w_id d sent brought = bringing-cons w_id d sent ∙ ap (λ b. cond b 1 0 + bringing w_id sent) brought

pub no_more : (w_id : ℕ) (d : Dispatch) (sent : List Dispatch) → brings w_id d.what ≡ false → bringing w_id (d ∷ sent) ≡ bringing w_id sent
no_more w_id d sent not = let e = bringing-cons w_id d sent ∙ ap (λ b. cond b 1 0 + bringing w_id sent) not in omega (arith, e)

-- a number is no other
pub is_other : (a b : ℕ) → b ≢ a → (a == b) ≡ false
is_other a b other = by_bool (a == b) (λ same. absurd (other (sym (exact_unsigned_eq a b same)))) (λ differs. differs)

neither : (b : Bool) (n : ℕ) → cond b 1 0 + n ≡ 0 → (b ≡ false) × (n ≡ 0)
neither true n none = absurd (omega (arith, none))
neither false n none = (refl, omega (arith, none))

-- none brings it: so the first does not, and none of the others
pub none_brings : (w_id : ℕ) (d : Dispatch) (sent : List Dispatch) → bringing w_id (d ∷ sent) ≡ 0 → (brings w_id d.what ≡ false) × (bringing w_id sent ≡ 0)
none_brings w_id d sent none = neither (brings w_id d.what) (bringing w_id sent) (sym (bringing-cons w_id d sent) ∙ none)

pub is_away_from : (place : Whereabouts) → to_bring place ≡ 0 → is_away place ≡ false
is_away_from place none = decide (is_away place) none
  where
    decide : (b : Bool) → ◌≡◌ {A = ℕ} (cond b 1 0) 0 → b ≡ false
    decide true is = absurd (omega (arith, is))
    decide false is = refl

-- ---- a placement is changed

module _ (h : PlacementsView) (w_id : ℕ) (placement : Placement) (some : 1 ≤ w_id) where
  -- a message that does not bring the slice of this warehouse stays consistent
  still_right : (to : ℕ) (what : Moving) → brings w_id what ≡ false → IsRight h to what → IsRight (with_placement h w_id placement) to what
  still_right to (Order order) not right = (right.0, (subst (λ n. IsWithin n h.executors order) (sym (placements_same h w_id placement)) right.1.0, right.1.1))
  still_right to (Fetch at then_to) not right = (warehouse_with h w_id placement at right.0, place_other h w_id placement at some (eqb-false at w_id not) ∙ right.1)
  still_right to (Parcel at) not right = (warehouse_with h w_id placement at right.0, place_other h w_id placement at some (eqb-false at w_id not) ∙ right.1)

  pub all_right : (sent : List Dispatch) → bringing w_id sent ≡ 0 → All (IsSentRight h) sent → All (IsSentRight (with_placement h w_id placement)) sent
  all_right [] none right = All-nil (IsSentRight (with_placement h w_id placement))
  all_right (d ∷ sent) none right =
      let both = none_brings w_id d sent none in
      All-cons (IsSentRight (with_placement h w_id placement)) d sent
      (still_right d.to d.what both.0 (All-head (IsSentRight h) d sent right))
      (all_right sent both.1 (All-tail (IsSentRight h) d sent right))

  -- of each slice that is away just one thing is on its way, with other things on their way of this one alone
  pub still_once : (old new : List Dispatch) → ((v : ℕ) → IsWarehouse h v → bringing v old ≡ to_bring (place_of h v))
      → ((v : ℕ) → v ≢ w_id → bringing v new ≡ bringing v old) → bringing w_id new ≡ to_bring (place_of (with_placement h w_id placement) w_id)
      → (v : ℕ) → IsWarehouse (with_placement h w_id placement) v → bringing v new ≡ to_bring (place_of (with_placement h w_id placement) v)
  still_once old new once others here v there =
      by_bool (v == w_id)
      (λ same. let is = exact_unsigned_eq v w_id same in
      subst (λ n. bringing n new ≡ to_bring (place_of (with_placement h w_id placement) n)) (sym is) here)
      (λ differs. let other = eqb-false v w_id differs in
      others v other ∙ once v (warehouse_before h w_id placement v there) ∙ ap (λ p. to_bring p) (sym (place_other h w_id placement v some other)))

-- ---- how much is in flight

few_orders : (warehouses executors : ℕ) (order : MoveOrder) → IsWithin warehouses executors order → 1 ≤ size_of order
few_orders warehouses executors order within = omega (arith, within.some)

-- of each dispatch there is a report to come
pub some_report : (h : PlacementsView) (to : ℕ) (what : Moving) → IsRight h to what → 1 ≤ reports_of what
some_report h to (Order order) right = few_orders (length h.placements) h.executors order right.1.0
some_report h to (Fetch at then_to) right = omega arith
some_report h to (Parcel at) right = omega arith

pub few_reports : (h : PlacementsView) (sent : List Dispatch) → All (IsSentRight h) sent → length sent ≤ reports sent
few_reports h [] right = omega arith
few_reports h (d ∷ sent) right =
    omega (
      arith,
      reports-cons d sent,
      some_report h d.to d.what (All-head (IsSentRight h) d sent right),
      few_reports h sent (All-tail (IsSentRight h) d sent right),
    )

pub none_sent : (h : PlacementsView) (sent : List Dispatch) → All (IsSentRight h) sent → reports sent ≡ 0 → sent ≡ []
none_sent h [] right none = refl
none_sent h (d ∷ sent) right none = absurd (omega (arith, none, reports-cons d sent, some_report h d.to d.what (All-head (IsSentRight h) d sent right)))

-- where fewer reports are to come than the move that is outstanding lacks, it has begun
begun_right : (h : PlacementsView) (awaited to : ℕ) (what : Moving) → reports_of what < h.awaited → IsRight h to what → IsRight (record h { awaited = awaited }) to what
begun_right h awaited to (Order order) less right = let is = right.1.1 in absurd (omega (arith, less, is))
begun_right h awaited to (Fetch at then_to) less right = right
begun_right h awaited to (Parcel at) less right = right

pub all_begun : (h : PlacementsView) (awaited : ℕ) (sent : List Dispatch) → reports sent < h.awaited → All (IsSentRight h) sent → All (IsSentRight (record h { awaited = awaited })) sent
all_begun h awaited [] less right = All-nil (IsSentRight (record h { awaited = awaited }))
all_begun h awaited (d ∷ sent) less right =
    let both = reports-cons d sent in
    All-cons (IsSentRight (record h { awaited = awaited })) d sent
    (begun_right h awaited d.to d.what (omega (arith, less, both)) (All-head (IsSentRight h) d sent right))
    (all_begun h awaited sent (omega (arith, less, both)) (All-tail (IsSentRight h) d sent right))
