-- Where slices are, and which parcels are on their way.
use Rattle.std.proofs.Common.{◌≡◌, ℕ, ◌+◌, ◌≤◌, ◌==◌, false, cond, List, [], ◌∷◌, refl, sym, ◌∙◌, ap, subst, arith}
use Rattle.std.specs.Prelude.{All, count_by}
use Rattle.std.proofs.lemmas.List.Elements.{All-head, All-tail}
use Rattle.std.proofs.lemmas.List.Sums.{sum_by-cons}
use Rattle.std.proofs.lemmas.Map.Views.{exact_unsigned_eq}
use Rattle.range_moves.specs.declared.placement.Whereabouts.{Whereabouts}
use Rattle.range_moves.specs.declared.placement.Whereabouts.TheVariants.{Rests, Leaves, Travels}
use Rattle.range_moves.specs.declared.order.Moving.{Moving}
use Rattle.range_moves.specs.declared.order.Moving.TheVariants.{Order, Fetch, Parcel}
use Rattle.range_moves.specs.Placements.{PlacementsView, place_of}
use Rattle.range_moves.specs.Traffic.{AreOwned, Dispatch, MessageToSlice, IsLocatedWith, IsRight, IsSentRight, brings, is_parcel_of, is_travelling}
use Rattle.range_moves.proofs.Knowing.{by_bool}
use Rattle.range_moves.proofs.Sendings.{bringing, bringing-cons, to_bring}

-- how many parcels of this warehouse's slice are on their way
abbrev parcels : ℕ → List Dispatch → ℕ
parcels w_id sent = count_by (λ d. is_parcel_of w_id d.what) sent

parcels-cons : (w_id : ℕ) (d : Dispatch) (sent : List Dispatch) → parcels w_id (d ∷ sent) ≡ cond (is_parcel_of w_id d.what) 1 0 + parcels w_id sent
parcels-cons w_id d sent = sum_by-cons (λ e. cond (is_parcel_of w_id e.what) 1 0) d sent

-- a parcel brings its slice
one_brings : (w_id : ℕ) (what : Moving) → cond {A = ℕ} (is_parcel_of w_id what) 1 0 ≤ cond (brings w_id what) 1 0
one_brings w_id (Order order) = omega arith
one_brings w_id (Fetch at to) = omega arith
one_brings w_id (Parcel at) = omega arith

few_parcels : (w_id : ℕ) (sent : List Dispatch) → parcels w_id sent ≤ bringing w_id sent
few_parcels w_id [] = omega arith
few_parcels w_id (d ∷ sent) = omega (arith, parcels-cons w_id d sent, bringing-cons w_id d sent, one_brings w_id d.what, few_parcels w_id sent)

module _ (h : PlacementsView) (w_id : ℕ) where
  -- while a slice is at an executor, no parcel of it is on its way
  no_parcel : (here then_to to : ℕ) (what : Moving) → place_of h w_id ≡ Leaves here then_to → IsRight h to what → is_parcel_of w_id what ≡ false
  no_parcel here then_to to (Order order) place right = refl
  no_parcel here then_to to (Fetch at other) place right = refl
  no_parcel here then_to to (Parcel at) place right =
      by_bool (at == w_id)
      (λ is.
      let there : place_of h w_id ≡ Travels to = subst (λ n. place_of h n ≡ Travels to) (exact_unsigned_eq at w_id is) right.1 in
      absurd (cc))
      (λ differs. differs)

  none_leave : (here then_to : ℕ) (sent : List Dispatch) → place_of h w_id ≡ Leaves here then_to → All (IsSentRight h) sent → parcels w_id sent ≡ 0
  none_leave here then_to [] place right = refl
  none_leave here then_to (d ∷ sent) place right =
      parcels-cons w_id d sent ∙ ap (λ b. cond b 1 0 + parcels w_id sent) (no_parcel here then_to d.to d.what place (All-head (IsSentRight h) d sent right))
      ∙ ap (λ n. 0 + n) (none_leave here then_to sent place (All-tail (IsSentRight h) d sent right))

  -- while it travels, what brings it is a parcel
  is_the_parcel : (then_to to : ℕ) (what : Moving) → place_of h w_id ≡ Travels then_to → IsRight h to what → is_parcel_of w_id what ≡ brings w_id what
  is_the_parcel then_to to (Order order) place right = refl
  is_the_parcel then_to to (Fetch at other) place right =
      by_bool (at == w_id)
      (λ is.
      let there : place_of h w_id ≡ Leaves to other = subst (λ n. place_of h n ≡ Leaves to other) (exact_unsigned_eq at w_id is) right.1 in
      absurd (cc))
      (λ differs. sym differs)
  is_the_parcel then_to to (Parcel at) place right = refl

  all_parcels : (then_to : ℕ) (sent : List Dispatch) → place_of h w_id ≡ Travels then_to → All (IsSentRight h) sent → parcels w_id sent ≡ bringing w_id sent
  all_parcels then_to [] place right = refl
  all_parcels then_to (d ∷ sent) place right =
      parcels-cons w_id d sent ∙ ap (λ b. cond b 1 0 + parcels w_id sent) (is_the_parcel then_to d.to d.what place (All-head (IsSentRight h) d sent right))
      ∙ ap (λ n. cond (brings w_id d.what) 1 0 + n) (all_parcels then_to sent place (All-tail (IsSentRight h) d sent right)) ∙ sym (bringing-cons w_id d sent)

pub owned : (more : ℕ) (h : PlacementsView) (going : List MessageToSlice) (sent : List Dispatch) (moved : ℕ) (parked : List ℕ) → IsLocatedWith more h going sent moved parked → AreOwned h sent
owned more h going sent moved parked w w_id there = by (place_of h w_id) refl
  where
    once : bringing w_id sent ≡ to_bring (place_of h w_id)
    once = w.once w_id there

    by : (place : Whereabouts) → place_of h w_id ≡ place → parcels w_id sent ≡ cond (is_travelling place) 1 0
    by (Rests here) is = let none = once ∙ ap (λ p. to_bring p) is in omega (arith, few_parcels w_id sent, none)
    by (Leaves here to) is = none_leave h w_id here to sent is w.right
    by (Travels to) is = all_parcels h w_id to sent is w.right ∙ once ∙ ap (λ p. to_bring p) is
