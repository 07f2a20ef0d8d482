-- What holds where one owner has all places of a round.
use Rattle.std.proofs.Common.{◌≡◌, ◌≢◌, ◌↔◌, ◌^◌, ◌<◌, ℕ, zero, suc, ◌+◌, List, [], ◌∷◌, map, length, set, replicate, Option, Some, None, IfSome, slice_get, refl, sym, ap, ◌∙◌, subst, arith, length-set}
use Rattle.std.proofs.lemmas.List.{length-replicate, map-set, nil_from_length, set-set}
use mathlib.Core.Option.{some}
use lib.ListN.{get_elem?}
use Rattle.atomic_table.specs.Table.{Me}
use Rattle.atomic_table.specs.Seated.{TableId}
use Rattle.atomic_table.specs.declared.shared.Seat.{Seat}
use Rattle.rendezvous.specs.Awaited.{awaited_from}
use Rattle.rendezvous.specs.Stages.{RoundView, Stage, waits, sits, gave, took}
use Rattle.rendezvous.specs.Rule.{reported_at, awaited, IsConvened, IsReported, IsSeated, IsWhole}
use Rattle.rendezvous.specs.Seats.{IsAt}
use Rattle.rendezvous.specs.Hands.{held, IsInHand}
use Rattle.rendezvous.specs.Sole.{stage_from, reports_of, HasRound, HasRoundResults}
use Rattle.rendezvous.proofs.PlaceStages.{set_there, awaited_set}
use Rattle.rendezvous.proofs.Hands.{all_in_hand}
use Rattle.rendezvous.proofs.SharedPlaces.{at_own}

reported_first : (R : Type 0) (n : ℕ) → map (reported_at {R = R}) (replicate n waits) ≡ replicate n None
reported_first R zero = refl
reported_first R (suc n) = ap (λ l. None ∷ l) (reported_first R n)

stages_first : (R : Type 0) (n : ℕ) → map (stage_from {R = R}) (replicate n None) ≡ replicate n waits
stages_first R zero = refl
stages_first R (suc n) = ap (λ l. waits ∷ l) (stages_first R n)

module _ {A : Type 0} where
  mapped_there : {B : Type 0} (f : A → B) (l : List A) (i : ℕ) (x : A) → slice_get l i ≡ Some x → get_elem? (map f l) i ≡ some (f x)
  mapped_there f [] i x e = absurd (cc)
  mapped_there f (z ∷ l) zero x e = let same : z ≡ x = ap (λ (o : Option A). value_or x o) e in ap (λ (y : A). some (f y)) same
    where
      value_or : A → Option A → A
      value_or d None = d
      value_or d (Some y) = y
  mapped_there f (z ∷ l) (suc i) x e = mapped_there f l i x e

  -- what holds of a round and is seen of it, where there is one
  pub of_round : (P : A → Type 0) (o : Option A) (a : A) → o ≡ Some a → IfSome o P → P a
  of_round P o a is holds = subst (λ (p : Option A). IfSome p P) is holds

  pub seen_of : {R : Type 0} (stages : A → List (Stage R)) (reports : List (Option R)) (o : Option A) (a : A) → o ≡ Some a → reports_of o stages ≡ reports → map reported_at (stages a) ≡ reports
  seen_of stages reports o a is seen = subst (λ (p : Option A). reports_of p stages ≡ reports) is seen

module _ {R : Type 0} where
  -- as many are awaited as have not reported
  awaited_numbers : (n : ℕ) (xs : List (Stage R)) → length (awaited_from n (map reported_at xs)) ≡ awaited xs
  awaited_numbers n [] = refl
  awaited_numbers n (waits ∷ xs) = ap suc (awaited_numbers (n + 1) xs)
  awaited_numbers n (sits ∷ xs) = ap suc (awaited_numbers (n + 1) xs)
  awaited_numbers n (gave own ∷ xs) = awaited_numbers (n + 1) xs
  awaited_numbers n (took own results ∷ xs) = awaited_numbers (n + 1) xs

module _ {T R : Type 0} where
  -- at first no place has reported
  pub round_first : (topic : Option T) (table : TableId) (most places : ℕ) (before : Me (Option R) (RoundView T R)) (seat : Seat (Option R) (RoundView T R)) → IsAt table seat → table.slots ≡ most → places < 2 ^ 64 → IsConvened topic places before seat.me
      → HasRound table most places seat
  round_first topic table most places before seat at slots fits me = record {
    at = at;
    slots = slots;
    fits_word = fits;
    no_slot = ap (λ (m : Me (Option R) (RoundView T R)). m.1) me;
    from = ap (λ (m : Me (Option R) (RoundView T R)). m.0.from) me;
    size = ap (λ (m : Me (Option R) (RoundView T R)). m.0.size) me;
    long = ap length stages ∙ length-replicate places waits;
    calm = stages ∙ sym (stages_first R places) ∙ ap (map stage_from) (sym (reported_first R places)) ∙ ap (λ (l : List (Stage R)). map stage_from (map reported_at l)) (sym stages);
  }
    where
      stages : seat.me.0.stages ≡ replicate places waits
      stages = ap (λ (m : Me (Option R) (RoundView T R)). m.0.stages) me

  pub none_reported : (topic : Option T) (places : ℕ) (before after : Me (Option R) (RoundView T R)) → IsConvened topic places before after → map reported_at after.0.stages ≡ replicate places None
  none_reported topic places before after me = ap (λ (m : Me (Option R) (RoundView T R)). map reported_at m.0.stages) me ∙ reported_first R places

  -- a place that has not reported
  pub waits_there : (table : TableId) (most places : ℕ) (seat : Seat (Option R) (RoundView T R)) (place : ℕ) (reports : List (Option R)) → HasRound table most places seat → map reported_at seat.me.0.stages ≡ reports → slice_get reports place ≡ Some None → get_elem? seat.me.0.stages place ≡ some waits
  waits_there table most places seat place reports has seen awaits =
      ap (λ (l : List (Stage R)). get_elem? l place) has.calm ∙ mapped_there stage_from (map reported_at seat.me.0.stages) place None (ap (λ (l : List (Option R)). slice_get l place) seen ∙ awaits)

  module _ (table : TableId) (most places : ℕ) (seat : Seat (Option R) (RoundView T R)) (place : ℕ) (own : R) (reports : List (Option R)) (seated : Me (Option R) (RoundView T R)) (has : HasRound table most places seat) (seen : map reported_at seat.me.0.stages ≡ reports) (awaits : slice_get reports place ≡ Some None)
      (sat : IsSeated place seat.me seated) where
    waiting : get_elem? seat.me.0.stages place ≡ some waits
    waiting = waits_there table most places seat place reports has seen awaits

    -- it has its slot
    pub sits_there : get_elem? seated.0.stages place ≡ some sits
    sits_there = ap (λ (m : Me (Option R) (RoundView T R)). get_elem? m.0.stages place) sat ∙ set_there seat.me.0.stages place waits sits waiting

    pub slot_is : place ≡ seated.0.from + place
    slot_is = let first = ap (λ (m : Me (Option R) (RoundView T R)). m.0.from) sat in omega (arith, first, has.from)

    pub slot_empty : seated.1 ≡ (place, None) ∷ []
    slot_empty = let same : seat.me.0.from + place ≡ place = omega (arith, has.from) in
        ap (λ (m : Me (Option R) (RoundView T R)). m.1) sat ∙ ap (λ (n : ℕ). (n, None) ∷ seat.me.1) same ∙ ap (λ (l : List (ℕ × Option R)). (place, None) ∷ l) has.no_slot

    stages_are : seated.0.stages ≡ set seat.me.0.stages place sits
    stages_are = ap (λ (m : Me (Option R) (RoundView T R)). m.0.stages) sat

    abbrev given : List (Stage R)
    given = set seat.me.0.stages place (gave own)

    given_is : set seated.0.stages place (gave own) ≡ given
    given_is = ap (λ (l : List (Stage R)). set l place (gave own)) stages_are ∙ set-set seat.me.0.stages place sits (gave own)

    reported_is : map reported_at given ≡ set reports place (Some own)
    reported_is = map-set reported_at seat.me.0.stages place (gave own) ∙ ap (λ (l : List (Option R)). set l place (Some own)) seen

    from_is : seated.0.from ≡ 0
    from_is = ap (λ (m : Me (Option R) (RoundView T R)). m.0.from) sat ∙ has.from

    size_is : seated.0.size ≡ places
    size_is = ap (λ (m : Me (Option R) (RoundView T R)). m.0.size) sat ∙ has.size

    whole : IsWhole seated.0
    whole = (from_is, ap length stages_are ∙ length-set seat.me.0.stages place sits ∙ has.long ∙ sym size_is)

    one_fewer : awaited seated.0.stages ≡ suc (awaited given)
    one_fewer = let sit = awaited_set seat.me.0.stages place waits sits waiting in let give = awaited_set seat.me.0.stages place waits (gave own) waiting in omega (arith, sit, give, ap awaited stages_are)

    module _ (suits : T → ℕ → R → Type 0) (count : ℕ) (after : Seat (Option R) (RoundView T R)) (was : IsReported suits place own seated.0 count after.me) where
      -- it is the last exactly if no other is awaited
      pub last_is : (count ≡ 1) ↔ (awaited_from 0 (set reports place (Some own)) ≡ [])
      last_is =
          let counted = was.counted whole in
          let numbers = awaited_numbers 0 given in
          let same = ap (λ (l : List (Option R)). length (awaited_from 0 l)) reported_is in
          (λ one. nil_from_length _ (omega (arith, one, counted, numbers, same, one_fewer)), λ none_left. let zero_left = ap length none_left in omega (arith, zero_left, counted, numbers, same, one_fewer))

      after_is : count ≢ 1 → after.me.0.stages ≡ given
      after_is more = ap (λ (m : Me (Option R) (RoundView T R)). m.0.stages) (was.not_last more) ∙ given_is

      -- else its result is kept
      pub kept_is : count ≢ 1 → map reported_at after.me.0.stages ≡ set reports place (Some own)
      kept_is more = ap (map reported_at) (after_is more) ∙ reported_is

      -- and the round goes on
      pub round_kept : count ≢ 1 → IsAt table after → HasRound table most places after
      round_kept more at = record {
        at = at;
        slots = has.slots;
        fits_word = has.fits_word;
        no_slot = ap (λ (m : Me (Option R) (RoundView T R)). m.1) (was.not_last more);
        from = ap (λ (m : Me (Option R) (RoundView T R)). m.0.from) (was.not_last more) ∙ from_is;
        size = ap (λ (m : Me (Option R) (RoundView T R)). m.0.size) (was.not_last more) ∙ size_is;
        long = ap length (after_is more) ∙ length-set seat.me.0.stages place (gave own) ∙ has.long;
        calm = after_is more ∙ ap (λ (l : List (Stage R)). set l place (gave own)) has.calm ∙ sym (map-set stage_from (map reported_at seat.me.0.stages) place (Some own)) ∙ ap (λ (l : List (Option R)). map stage_from (set l place (Some own))) seen ∙ ap (map stage_from) (sym (kept_is more));
      }

      -- the last one has all results
      pub last_has : count ≡ 1 → IsAt table after → (HasRoundResults table most 0 places after) × (map Some (held after.me.1) ≡ set reports place (Some own))
      last_has one at =
          let last = was.last one in
          let view = ap (λ (m : Me (Option R) (RoundView T R)). m.0) last.1 in
          let size : after.me.0.size ≡ places = ap (λ (v : RoundView T R). v.size) view ∙ size_is in
          let all = all_in_hand after.me.0.size after.me.1 last.0 (ap (λ (m : Me (Option R) (RoundView T R)). m.1) last.1) (last.2 ∙ size_is ∙ sym size) in (
            record {
              at = at;
              slots = has.slots;
              results = record {
                at = at_own table after at;
                convenes = ap (λ (v : RoundView T R). v.convenes) view;
                fits_word = subst (λ (n : ℕ). n < 2 ^ 64) (sym size) has.fits_word;
                hand = subst (λ (n : ℕ). IsInHand after.me.0.size 0 n after.me.1) size all.0;
              };
            },
            ap (map Some) all.1 ∙ sym (last.4 whole) ∙ ap (map reported_at) given_is ∙ reported_is,
          )
