-- What a place was answered that has reported, and what the receipts of all places say together.
use Rattle.std.proofs.Common.{◌≡◌, ℕ, zero, suc, ◌+◌, ◌-◌, ◌^◌, ◌<◌, List, [], ◌∷◌, ◌++◌, map, length, replicate, drop, Option, Some, None, true, slice_get, refl, sym, ap, ◌∙◌, subst, arith}
use mathlib.Core.Option.{some}
use lib.ListN.{get_elem?}
use Rattle.atomic_table.specs.Table.{Me}
use Rattle.atomic_table.specs.Seated.{TableId}
use Rattle.atomic_table.specs.declared.shared.Seat.{Seat}
use Rattle.rendezvous.specs.Stages.{RoundView, Stage, waits, sits, gave, took}
use Rattle.rendezvous.specs.Hands.{held, IsInHand}
use Rattle.rendezvous.specs.Rule.{reported_at, awaited, takers, both, having, others, first_of, in_slots, IsReported, IsSettled}
use Rattle.rendezvous.specs.Seats.{IsAt}
use Rattle.rendezvous.specs.Meetings.{ReceiptView, stage_of, AllSuit, AreOfAll, GotAll, HasPlaces, HasResults, IsPlaceOf, ArePlacesOf}
use Rattle.rendezvous.proofs.Hands.{all_in_hand}

-- a seat is at its own table
pub at_own : {T R : Type 0} (table : TableId) (seat : Seat (Option R) (RoundView T R)) → IsAt table seat → IsAt seat.table_id seat
at_own table seat at = record { at_table = refl; some_word = subst (λ (t : TableId). 0 < t.words) (sym at.at_table) at.some_word }

drop_first : {A : Type 0} (n : ℕ) (x : A) → drop 1 (replicate n x) ≡ replicate (n - 1) x
drop_first zero x = refl
drop_first (suc n) x = let same : suc n - 1 ≡ n = omega arith in ap (λ (k : ℕ). replicate k x) (sym same)

module _ {T R : Type 0} where
  -- one place fewer is left
  pub handed_out : (places next : ℕ) (before after : Seat (Option R) (RoundView T R)) (table : TableId) → ArePlacesOf places next before → next < places → IsAt table after → after.me ≡ (others before.me.0, before.me.1) → ArePlacesOf places (next + 1) after
  handed_out places next before after table are more at me =
      let w : Stage R = waits in
      let fewer : (places - next) - 1 ≡ places - (next + 1) = omega arith in
      let one : suc next ≡ next + 1 = omega arith in
      let view = having before.me.0.topic before.me.0.round before.me.0.size in
      let is : after.me ≡ (view (next + 1) (replicate (places - (next + 1)) w), []) =
      me ∙ ap {A = Me (Option R) (RoundView T R)} {B = Me (Option R) (RoundView T R)} (λ m. (others m.0, m.1)) are.me
      ∙ ap {A = List (Stage R)} {B = Me (Option R) (RoundView T R)} (λ l. (view (suc next) l, [])) (drop_first (places - next) w ∙ ap (λ (k : ℕ). replicate k w) fewer)
      ∙ ap {A = ℕ} {B = Me (Option R) (RoundView T R)} (λ n. (view n (replicate (places - (next + 1)) w), [])) one in
      record {
        at = at_own table after at;
        bound = omega (arith, more);
        size = ap (λ (m : Me (Option R) (RoundView T R)). m.0.size) is ∙ are.size;
        me = is ∙ ap {A = RoundView T R} {B = Me (Option R) (RoundView T R)} (λ v. (having v.topic v.round v.size (next + 1) (replicate (places - (next + 1)) w), [])) (sym (ap (λ (m : Me (Option R) (RoundView T R)). m.0) is));
      }

  -- the place that reports last
  module _ (suits : T → ℕ → R → Type 0) (places number : ℕ) (own : R) (seat : Seat (Option R) (RoundView T R)) (count : ℕ) (after : Me (Option R) (RoundView T R)) (is : IsPlaceOf places number seat) (was : IsReported suits 0 own seat.me.0 count after) where
    abbrev mine : RoundView T R
    mine = having seat.me.0.topic seat.me.0.round seat.me.0.size number (sits ∷ [])

    abbrev over : List R → RoundView T R
    over results = record { topic = seat.me.0.topic; round = seat.me.0.round; size = seat.me.0.size; from = number; stages = took own results ∷ []; convenes = true }

    here : IsReported suits 0 own mine count after
    here = subst (λ (m : Me (Option R) (RoundView T R)). IsReported suits 0 own m.0 count after) is.me was

    -- has all results, and suits
    pub last_one : count ≡ 1 → (results : List R) × (after ≡ (over results, in_slots 0 results)) × (length results ≡ places) × (slice_get results number ≡ Some own) × ((topic : T) → seat.me.0.topic ≡ Some topic → AllSuit (suits topic) results)
    last_one one =
        let last = here.last one in
        let same : number ≡ number + 0 = omega arith in
        (last.0, last.1, last.2 ∙ is.size, ap (λ (n : ℕ). slice_get last.0 n) same ∙ last.3, last.5)

    -- and keeps them once its place has gone to a seat of its own
    pub still_has : (one : count ≡ 1) (rest : Seat (Option R) (RoundView T R)) (table : TableId) → IsAt table rest → rest.me ≡ (others after.0, after.1) → (HasResults 0 places rest) × (held rest.me.1 ≡ (last_one one).0) × (rest.me.0.round ≡ seat.me.0.round)
    still_has one rest table at me =
        let last = last_one one in
        let hand : rest.me.1 ≡ in_slots 0 last.0 = ap (λ (m : Me (Option R) (RoundView T R)). m.1) me ∙ ap (λ (m : Me (Option R) (RoundView T R)). m.1) last.1 in
        let view : rest.me.0 ≡ others (over last.0) = ap (λ (m : Me (Option R) (RoundView T R)). m.0) me ∙ ap (λ (m : Me (Option R) (RoundView T R)). others m.0) last.1 in
        let size : rest.me.0.size ≡ places = ap (λ (v : RoundView T R). v.size) view ∙ is.size in
        let all = all_in_hand rest.me.0.size rest.me.1 last.0 hand (last.2 ∙ sym size) in (
          record {
            at = at_own table rest at;
            convenes = ap (λ (v : RoundView T R). v.convenes) view;
            fits_word = subst (λ (n : ℕ). n < 2 ^ 64) (sym size) is.fits_word;
            hand = subst (λ (n : ℕ). IsInHand rest.me.0.size 0 n rest.me.1) size all.0;
          },
          all.1,
          ap (λ (v : RoundView T R). v.round) view,
        )

    -- its receipt
    pub last_receipt : (one : count ≡ 1) (part : Seat (Option R) (RoundView T R)) → part.me ≡ (first_of after.0, []) → part.me ≡ (having seat.me.0.topic seat.me.0.round seat.me.0.size number (took own (last_one one).0 ∷ []), [])
    last_receipt one part me = me ∙ ap {B = Me (Option R) (RoundView T R)} (λ (m : Me (Option R) (RoundView T R)). (first_of m.0, [])) (last_one one).1

-- ---- the receipts of all places

append_one : {A : Type 0} (xs : List A) (x : A) (ys : List A) → (xs ++ x ∷ []) ++ ys ≡ xs ++ x ∷ ys
append_one [] x ys = refl
append_one (z ∷ xs) x ys = ap (λ l. z ∷ l) (append_one xs x ys)

length_one : {A : Type 0} (xs : List A) (x : A) → length (xs ++ x ∷ []) ≡ suc (length xs)
length_one [] x = refl
length_one (z ∷ xs) x = ap suc (length_one xs x)

module _ {R : Type 0} where
  -- the receipt at an index has that number
  number_at : (before taken : List (ReceiptView R)) (r : ReceiptView R) (meeting : TableId) (round places start : ℕ) → AreOfAll meeting round places start (before ++ r ∷ taken) → (r.meeting ≡ meeting) × (r.round ≡ round) × (r.places ≡ places) × (r.number ≡ start + length before)
  number_at [] taken r meeting round places start is = (is.0, is.1, is.2, omega (arith, is.3))
  number_at (x ∷ before) taken r meeting round places start is = let at = number_at before taken r meeting round places (suc start) is.4 in (at.0, at.1, at.2, omega (arith, at.3))

  awaited_none : (x : Stage R) (xs : List (Stage R)) → awaited (x ∷ []) ≡ 0 → awaited xs ≡ 0 → awaited (x ∷ xs) ≡ 0
  awaited_none waits xs one rest = absurd (omega arith)
  awaited_none sits xs one rest = absurd (omega arith)
  awaited_none (gave own) xs one rest = rest
  awaited_none (took own results) xs one rest = rest

  pub one_more : (r : ReceiptView R) (taken : List (ReceiptView R)) → awaited (r.stage ∷ []) ≡ 0 → awaited (map stage_of taken) ≡ 0 → awaited (map stage_of (r ∷ taken)) ≡ 0
  one_more r taken one rest = awaited_none r.stage (map stage_of taken) one rest

  -- the last of those that are left stands just before those that were taken
  pub comes_before : (meeting : TableId) (round places : ℕ) (all left new taken : List (ReceiptView R)) (r : ReceiptView R) → AreOfAll meeting round places 0 all → left ≡ new ++ r ∷ [] → all ≡ left ++ taken
      → (r.meeting ≡ meeting) × (r.round ≡ round) × (r.places ≡ places) × (r.number ≡ length new) × (length left ≡ suc (length new)) × (all ≡ new ++ r ∷ taken)
  comes_before meeting round places all left new taken r are is was =
      let whole : all ≡ new ++ r ∷ taken = was ∙ ap (λ (l : List (ReceiptView R)). l ++ taken) is ∙ append_one new r taken in
      let at = number_at new taken r meeting round places 0 (subst (λ (l : List (ReceiptView R)). AreOfAll meeting round places 0 l) whole are) in
      (at.0, at.1, at.2, omega (arith, at.3), ap length is ∙ length_one new r, whole)

module _ {T R : Type 0} where
  pub first_taken : (r : ReceiptView R) (round places n : ℕ) (me : Me (Option R) (RoundView T R)) → HasPlaces r.round r.places r.number (r.stage ∷ []) me → r.round ≡ round → r.places ≡ places → r.number ≡ n → HasPlaces round places n (map stage_of (r ∷ [])) me
  first_taken r round places n me is same size number = record { is_round = is.is_round ∙ same; size = is.size ∙ size; from = is.from ∙ number; stages = is.stages; no_slot = is.no_slot }

  -- then the other one has the places after it
  pub is_after : (r : ReceiptView R) (round places n m : ℕ) (before after : Me (Option R) (RoundView T R)) (stages : List (Stage R)) → HasPlaces r.round r.places r.number (r.stage ∷ []) before → HasPlaces round places m stages after → r.number ≡ n → m ≡ suc n → after.0.from ≡ before.0.from + length before.0.stages
  is_after r round places n m before after stages mine theirs number next = let long = ap length mine.stages in omega (arith, long, mine.from, theirs.from, number, next)

  pub some_place : (r : ReceiptView R) (before : Me (Option R) (RoundView T R)) → HasPlaces r.round r.places r.number (r.stage ∷ []) before → 0 < length before.0.stages
  some_place r before mine = let long = ap length mine.stages in omega (arith, long)

  -- and then the seat has it too
  pub taken_in : (new taken : List (ReceiptView R)) (r : ReceiptView R) (round places m : ℕ) (before after new_me : Me (Option R) (RoundView T R)) → r.round ≡ round → r.places ≡ places → r.number ≡ length new → HasPlaces r.round r.places r.number (r.stage ∷ []) before → HasPlaces round places m (map stage_of taken) after → new_me ≡ (both before.0 after.0, before.1)
      → HasPlaces round places (length new) (map stage_of (r ∷ taken)) new_me
  taken_in new taken r round places m before after new_me same size number mine theirs joined = record {
    is_round = ap (λ (x : Me (Option R) (RoundView T R)). x.0.round) joined ∙ mine.is_round ∙ same;
    size = ap (λ (x : Me (Option R) (RoundView T R)). x.0.size) joined ∙ mine.size ∙ size;
    from = ap (λ (x : Me (Option R) (RoundView T R)). x.0.from) joined ∙ mine.from ∙ number;
    stages = ap (λ (x : Me (Option R) (RoundView T R)). x.0.stages) joined ∙ ap (λ (l : List (Stage R)). l ++ after.0.stages) mine.stages ∙ ap (λ (l : List (Stage R)). r.stage ∷ l) theirs.stages;
    no_slot = ap (λ (x : Me (Option R) (RoundView T R)). x.1) joined ∙ mine.no_slot;
  }

  -- once none is left, the seat has all
  pub all_taken : (all left taken : List (ReceiptView R)) (round places : ℕ) (me : Me (Option R) (RoundView T R)) → all ≡ left ++ taken → HasPlaces round places (length left) (map stage_of taken) me → awaited (map stage_of taken) ≡ 0 → (0 < length left → ⊥) → (HasPlaces round places 0 (map stage_of all) me) × (awaited (map stage_of all) ≡ 0)
  all_taken all [] taken round places me was has zero_left nothing = (record { is_round = has.is_round; size = has.size; from = has.from; stages = has.stages ∙ ap (map stage_of) (sym was); no_slot = has.no_slot }, ap (λ (l : List (ReceiptView R)). awaited (map stage_of l)) was ∙ zero_left)
  all_taken all (x ∷ left) taken round places me was has zero_left nothing = absurd (nothing (omega arith))

  -- what all receipts say together
  pub settled : (all : List (ReceiptView R)) (round places : ℕ) (me after : Me (Option R) (RoundView T R)) → HasPlaces round places 0 (map stage_of all) me → awaited (map stage_of all) ≡ 0 → IsSettled me after
      → (takers (map stage_of all) ≡ 1) × GotAll (map stage_of all)
  settled all round places me after has none_left was = (
    subst (λ (l : List (Stage R)). awaited l ≡ 0 → takers l ≡ 1) has.stages was.1 none_left,
    λ number own results e. subst (λ (l : List (Stage R)). (k : ℕ) (o : R) (rs : List R) → get_elem? l k ≡ some (took o rs) → map reported_at l ≡ map Some rs) has.stages was.2 number own results (found_at (map stage_of all) number (took own results) e),
  )
    where
      value_or : Stage R → Option (Stage R) → Stage R
      value_or d None = d
      value_or d (Some y) = y

      unwrap : (a b : Stage R) → Some a ≡ Some b → a ≡ b
      unwrap a b e = ap (value_or a) e

      found_at : (l : List (Stage R)) (i : ℕ) (x : Stage R) → slice_get l i ≡ Some x → get_elem? l i ≡ some x
      found_at [] i x e = absurd (cc)
      found_at (y ∷ l) zero x e = ap some (unwrap y x e)
      found_at (y ∷ l) (suc i) x e = found_at l i x e
