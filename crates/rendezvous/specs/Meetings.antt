-- What contracts see of a shared meeting's rounds, of its places, and of what they were answered.
use Rattle.std.specs.Prelude.{◌≡◌, ◌+◌, ◌-◌, ◌^◌, ◌<◌, ◌≤◌, ℕ, suc, List, [], ◌∷◌, map, replicate, slice_get, Option, Some, None, true}
use Rattle.std.specs.Coded.{Coded, code_by, coded_list, coded_option, coded_ℕ, coded×}
use Rattle.atomic_table.specs.Seated.{TableId, table_id_coded}
use Rattle.atomic_table.specs.Table.{Me}
use Rattle.atomic_table.specs.declared.shared.Seat.{Seat}
use Rattle.rendezvous.specs.Stages.{RoundView, Stage, coded_stage, waits, sits, took}
use Rattle.rendezvous.specs.Rule.{awaited, empty_slots, having, reported_at}
use Rattle.rendezvous.specs.Hands.{IsInHand}
use Rattle.rendezvous.specs.Seats.{IsAt}
use mathlib.Core.Path.{refl}

-- a round of a meeting: the meeting's table, the number of the round, how many places it has, and what it is about
pub record RoundId (T : Type 0) : Type 0 where
  pub meeting : TableId
  pub round : ℕ
  pub places : ℕ
  pub topic : Option T

-- a place of a round that has not reported
pub record PlaceView (T : Type 0) : Type 0 where
  pub of_round : RoundId T
  pub number : ℕ

-- the places of a round that were not handed out yet: the first of them, and how many there are
pub record PlacesView (T : Type 0) : Type 0 where
  pub of_round : RoundId T
  pub next : ℕ
  pub left : ℕ

-- who may convene the next round of a meeting, after so many
pub record ConvenerView : Type 0 where
  pub meeting : TableId
  pub round : ℕ

-- the results of a round of a meeting that are left, by place
pub record ResultsView (R : Type 0) : Type 0 where
  pub meeting : TableId
  pub round : ℕ
  pub items : List R

-- a place that has reported, and whether it gave its result or took all results
pub record ReceiptView (R : Type 0) : Type 0 where
  pub meeting : TableId
  pub round : ℕ
  pub places : ℕ
  pub number : ℕ
  pub stage : Stage R

abbrev pub convener_view : TableId → ℕ → ConvenerView
convener_view meeting round = record { meeting = meeting; round = round }

abbrev pub coded_convener : Coded ConvenerView
coded_convener = code_by (TableId × ℕ) (coded× table_id_coded coded_ℕ) (λ (c : ConvenerView). (c.meeting, c.round)) (λ b. record { meeting = b.0; round = b.1 }) (λ _. refl)

module _ {T : Type 0} where
  abbrev pub round_id : TableId → ℕ → ℕ → Option T → RoundId T
  round_id meeting round places topic = record { meeting = meeting; round = round; places = places; topic = topic }

  abbrev pub place_view : RoundId T → ℕ → PlaceView T
  place_view round number = record { of_round = round; number = number }

  abbrev pub places_view : RoundId T → ℕ → ℕ → PlacesView T
  places_view round next left = record { of_round = round; next = next; left = left }

  abbrev pub coded_round_id : Coded T → Coded (RoundId T)
  coded_round_id t = code_by (TableId × (ℕ × (ℕ × Option T))) (coded× table_id_coded (coded× coded_ℕ (coded× coded_ℕ (coded_option t)))) (λ (r : RoundId T). (r.meeting, (r.round, (r.places, r.topic)))) (λ b. record { meeting = b.0; round = b.1.0; places = b.1.1.0; topic = b.1.1.1 }) (λ _. refl)

  abbrev pub coded_place : Coded T → Coded (PlaceView T)
  coded_place t = code_by (RoundId T × ℕ) (coded× (coded_round_id t) coded_ℕ) (λ (p : PlaceView T). (p.of_round, p.number)) (λ b. record { of_round = b.0; number = b.1 }) (λ _. refl)

  abbrev pub coded_places : Coded T → Coded (PlacesView T)
  coded_places t = code_by (RoundId T × (ℕ × ℕ)) (coded× (coded_round_id t) (coded× coded_ℕ coded_ℕ)) (λ (p : PlacesView T). (p.of_round, (p.next, p.left))) (λ b. record { of_round = b.0; next = b.1.0; left = b.1.1 }) (λ _. refl)

  -- the next place was handed out
  abbrev pub without_next : PlacesView T → PlacesView T
  without_next p = record p { next = p.next + 1; left = p.left - 1 }

module _ {R : Type 0} where
  abbrev pub results_view : TableId → ℕ → List R → ResultsView R
  results_view meeting round items = record { meeting = meeting; round = round; items = items }

  abbrev pub receipt_view : TableId → ℕ → ℕ → ℕ → Stage R → ReceiptView R
  receipt_view meeting round places number stage = record { meeting = meeting; round = round; places = places; number = number; stage = stage }

  -- the receipt of a place
  abbrev pub receipt_of : {T : Type 0} → PlaceView T → Stage R → ReceiptView R
  receipt_of place stage = receipt_view place.of_round.meeting place.of_round.round place.of_round.places place.number stage

  abbrev pub coded_results : Coded R → Coded (ResultsView R)
  coded_results r = code_by (TableId × (ℕ × List R)) (coded× table_id_coded (coded× coded_ℕ (coded_list r))) (λ (p : ResultsView R). (p.meeting, (p.round, p.items))) (λ b. record { meeting = b.0; round = b.1.0; items = b.1.1 }) (λ _. refl)

  abbrev pub coded_receipt : Coded R → Coded (ReceiptView R)
  coded_receipt r = code_by (TableId × (ℕ × (ℕ × (ℕ × Stage R)))) (coded× table_id_coded (coded× coded_ℕ (coded× coded_ℕ (coded× coded_ℕ (coded_stage r))))) (λ (p : ReceiptView R). (p.meeting, (p.round, (p.places, (p.number, p.stage))))) (λ b. record { meeting = b.0; round = b.1.0; places = b.1.1.0; number = b.1.1.1.0; stage = b.1.1.1.1 }) (λ _. refl)

  -- The receipts are those of all places of a round, by place.
  abbrev pub AreOfAll : TableId → ℕ → ℕ → ℕ → List (ReceiptView R) → Type 0
  AreOfAll meeting round places number [] = Unit {0}
  AreOfAll meeting round places number (r ∷ rs) = (r.meeting ≡ meeting) × (r.round ≡ round) × (r.places ≡ places) × (r.number ≡ number) × AreOfAll meeting round places (suc number) rs

  abbrev pub stage_of : ReceiptView R → Stage R
  stage_of r = r.stage

  -- Who took all results got what all have reported.
  abbrev pub GotAll : List (Stage R) → Type 0
  GotAll all = (number : ℕ) (own : R) (results : List R) → slice_get all number ≡ Some (took own results) → map reported_at all ≡ map Some results

  -- Each result suits its place.
  abbrev pub AllSuit : (ℕ → R → Type 0) → List R → Type 0
  AllSuit suits results = (number : ℕ) (r : R) → slice_get results number ≡ Some r → suits number r

  -- how far the one place of a view is
  abbrev pub first_stage : List (Stage R) → Stage R
  first_stage [] = waits
  first_stage (x ∷ xs) = x

module _ {T R : Type 0} where
  -- the round of a seat
  abbrev pub round_at : Seat (Option R) (RoundView T R) → RoundId T
  round_at seat = round_id seat.table_id seat.me.0.round seat.me.0.size seat.me.0.topic

  -- the seat has the place of this number of a round of so many, and its slot
  pub record IsPlaceOf (places number : ℕ) (seat : Seat (Option R) (RoundView T R)) : Type 0 where
    pub at : IsAt seat.table_id seat
    pub size : seat.me.0.size ≡ places
    pub fits_word : places < 2 ^ 64
    pub me : seat.me ≡ (having seat.me.0.topic seat.me.0.round seat.me.0.size number (sits ∷ []), (number, None) ∷ [])

  -- the seat has the places of a round of so many from this one on, none of which was handed out, and no slot
  pub record ArePlacesOf (places next : ℕ) (seat : Seat (Option R) (RoundView T R)) : Type 0 where
    pub at : IsAt seat.table_id seat
    pub bound : next ≤ places
    pub size : seat.me.0.size ≡ places
    pub me : seat.me ≡ (having seat.me.0.topic seat.me.0.round seat.me.0.size next (replicate (places - next) waits), [])

  -- the seat may convene, and has the empty slots of the round before
  pub record IsConvener (seat : Seat (Option R) (RoundView T R)) : Type 0 where
    pub at : IsAt seat.table_id seat
    pub convenes : seat.me.0.convenes ≡ true
    pub hand : seat.me.1 ≡ empty_slots 0 seat.me.0.size

  -- the seat may convene, and has so many results, from a place on
  pub record HasResults (next left : ℕ) (seat : Seat (Option R) (RoundView T R)) : Type 0 where
    pub at : IsAt seat.table_id seat
    pub convenes : seat.me.0.convenes ≡ true
    pub fits_word : seat.me.0.size < 2 ^ 64
    pub hand : IsInHand seat.me.0.size next left seat.me.1

  -- the seat has one place, which has reported, and no slot
  pub record IsReceipt (seat : Seat (Option R) (RoundView T R)) : Type 0 where
    pub at : IsAt seat.table_id seat
    pub no_slot : seat.me.1 ≡ []
    pub one : seat.me.0.stages ≡ first_stage seat.me.0.stages ∷ []
    pub reported : awaited seat.me.0.stages ≡ 0

  -- the seat has these places of a round of so many, from a number on, and no slot
  pub record HasPlaces (round places start : ℕ) (those : List (Stage R)) (me : Me (Option R) (RoundView T R)) : Type 0 where
    pub is_round : me.0.round ≡ round
    pub size : me.0.size ≡ places
    pub from : me.0.from ≡ start
    pub stages : me.0.stages ≡ those
    pub no_slot : me.1 ≡ []
