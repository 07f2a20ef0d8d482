-- Each step keeps the rule of a meeting.
use Rattle.std.proofs.Common.{◌≡◌, ◌≢◌, ◌⊎◌, ℕ, zero, suc, ◌+◌, ◌-◌, ◌*◌, ◌%◌, ◌^◌, ◌<◌, ◌≤◌, List, [], ◌∷◌, ◌++◌, map, length, set, replicate, drop, cond, eqb, eq-eqb, ne_eqb, true, true≢false, Option, Some, None, slice_get, refl, sym, ap, ◌∙◌, subst, inl, inr, ⊎_elim, arith, length-set}
use Rattle.std.specs.Prelude.{slice_index}
use Rattle.std.proofs.lemmas.List.{map-set, length-map}
use Rattle.std.proofs.lemmas.Nat.{mod-mul-add}
use mathlib.Core.Option.{some, none, some-ne-none, some-injective}
use mathlib.Core.Option as found
use mathlib.Core.Logic.{dite}
use native.Mathlib.Decide.{ℕ_discrete}
use lib.ListN.{get_elem?}
use Rattle.atomic_table.specs.Table.{State, Me, Act, keeps, takes, gives, chain, Valid, Allows, Splits, Joins, opening, put_back, rest, stepped, carried_after, homes_after}
use Rattle.atomic_table.proofs.Lists.{at_set, set_else, set_again, at_map}
use Rattle.rendezvous.specs.Stages.{RoundView, Stage, waits, sits, gave, took}
use Rattle.rendezvous.specs.Rule.{IsOpen, reported_at, awaited, takers, home, homes_at, homes_spare, empty_slots, SuitsAt, IsFinished, round_of, Rounds, Owners, Fits, Meets, having, at_first, at_stage, at_last, first_one, first_of, others, nowhere, both, IsWhole, IsConvened, IsSeated, IsSettled, IsReported, Reports}
use Rattle.rendezvous.proofs.PlaceStages.{set_there, same_lists, awaited_set, takers_set, awaited_there, taker_there, awaited_first, takers_first, no_one_took, all_reported_at, homes_open, homes_shut, same_some, homes_full, result_there}
use Rattle.rendezvous.proofs.Emptying.{takes_from, carried_all, homes_emptied, all_valid, none_at_home, gives_all, given_valid, none_carried, homes_given}

-- one less, as a word counts
one_less : (n : ℕ) → 1 ≤ n → n < 18446744073709551616 → (n + (2 ^ 64 - 1)) % 2 ^ 64 ≡ n - 1
one_less n some_left small =
    let sum : n + (2 ^ 64 - 1) ≡ 1 * 2 ^ 64 + (n - 1) = omega arith in
    ap (λ (k : ℕ). k % 2 ^ 64) sum ∙ mod-mul-add 1 (2 ^ 64) (n - 1) (omega arith)

some_or_none : (n : ℕ) → (0 < n) ⊎ (n ≡ 0)
some_or_none zero = inr refl
some_or_none (suc n) = inl (omega arith)

module _ {A : Type 0} where
  abbrev content_of : A → Option A → A
  content_of d None = d
  content_of d (Some t) = t

  pub same_content : (a b : A) → Some a ≡ Some b → a ≡ b
  same_content a b e = ap (content_of a) e

  -- what lies in the first of two lists
  append_at : (xs ys : List A) (i : ℕ) (x : A) → get_elem? xs i ≡ some x → get_elem? (xs ++ ys) i ≡ some x
  append_at [] ys i x e = absurd (some-ne-none x (sym e))
  append_at (y ∷ xs) ys zero x e = e
  append_at (y ∷ xs) ys (suc i) x e = append_at xs ys i x e

  append_set : (xs ys : List A) (i : ℕ) (x z : A) → get_elem? xs i ≡ some x → set (xs ++ ys) i z ≡ set xs i z ++ ys
  append_set [] ys i x z e = absurd (some-ne-none x (sym e))
  append_set (y ∷ xs) ys zero x z e = refl
  append_set (y ∷ xs) ys (suc i) x z e = ap (λ l. y ∷ l) (append_set xs ys i x z e)

  at_end : (l : List A) (a b : A) (j : ℕ) → get_elem? (l ++ a ∷ []) j ≡ some b → (get_elem? l j ≡ some b) ⊎ ((j ≡ length l) × (a ≡ b))
  at_end [] a b zero e = inr (refl, some-injective a b e)
  at_end [] a b (suc j) e = absurd (some-ne-none b (sym e))
  at_end (x ∷ xs) a b zero e = inl e
  at_end (x ∷ xs) a b (suc j) e = ⊎_elim (λ h. inl h) (λ (t : (j ≡ length xs) × (a ≡ b)). inr (omega (arith, t.0), t.1)) (at_end xs a b j e)

  at_append : (xs ys : List A) (i : ℕ) (x : A) → get_elem? (xs ++ ys) i ≡ some x → (get_elem? xs i ≡ some x) ⊎ ((k : ℕ) × (i ≡ length xs + k) × (get_elem? ys k ≡ some x))
  at_append [] ys i x e = inr (i, omega arith, e)
  at_append (y ∷ xs) ys zero x e = inl e
  at_append (y ∷ xs) ys (suc i) x e = ⊎_elim (λ h. inl h) (λ (t : (k : ℕ) × (i ≡ length xs + k) × (get_elem? ys k ≡ some x)). inr (t.0, omega (arith, t.1), t.2)) (at_append xs ys i x e)

  after_first : (l : List A) (i : ℕ) (x : A) → get_elem? (drop 1 l) i ≡ some x → get_elem? l (suc i) ≡ some x
  after_first [] i x e = e
  after_first (y ∷ l) i x e = e

  pub some_first : (l : List A) → 0 < length l → (x : A) × (get_elem? l 0 ≡ some x)
  some_first [] any = absurd (omega arith)
  some_first (x ∷ l) any = (x, refl)

  some_later : (l : List A) (i : ℕ) (x : A) → get_elem? l i ≡ some x → 0 < length l
  some_later [] i x e = absurd (some-ne-none x (sym e))
  some_later (y ∷ l) i x e = omega arith

  fewer_dropped : (l : List A) → 0 < length (drop 1 l) → 0 < length l
  fewer_dropped [] any = any
  fewer_dropped (x ∷ l) any = omega arith

-- ---- rounds

module _ {R : Type 0} where
  -- the present round comes after those that are over
  round_now : (past : List (List (Stage R))) (now : List (Stage R)) (n : ℕ) → n ≡ length past → round_of past now n ≡ now
  round_now [] now zero is = refl
  round_now [] now (suc n) is = absurd (omega arith)
  round_now (over ∷ past) now zero is = absurd (omega arith)
  round_now (over ∷ past) now (suc n) is = round_now past now n (omega arith)

  -- a step of the present round leaves those that are over
  round_else : (past : List (List (Stage R))) (now after : List (Stage R)) (n : ℕ) → n ≢ length past → round_of past now n ≡ round_of past after n
  round_else [] now after zero apart = absurd (apart refl)
  round_else [] now after (suc n) apart = refl
  round_else (over ∷ past) now after zero apart = refl
  round_else (over ∷ past) now after (suc n) apart = round_else past now after n (λ e. apart (omega (arith, e)))

  -- and so does a new round
  round_kept : (past : List (List (Stage R))) (now new : List (Stage R)) (n : ℕ) → 0 < length (round_of past now n) → round_of (past ++ now ∷ []) new n ≡ round_of past now n
  round_kept [] now new zero any = refl
  round_kept [] now new (suc n) any = absurd (omega arith)
  round_kept (over ∷ past) now new zero any = refl
  round_kept (over ∷ past) now new (suc n) any = round_kept past now new n any

  -- a round that is over, or the present one
  past_or_now : (past : List (List (Stage R))) (now : List (Stage R)) (n : ℕ) → 0 < length (round_of past now n) → (get_elem? past n ≡ some (round_of past now n)) ⊎ (round_of past now n ≡ now)
  past_or_now [] now zero any = inr refl
  past_or_now [] now (suc n) any = absurd (omega arith)
  past_or_now (over ∷ past) now zero any = inl refl
  past_or_now (over ∷ past) now (suc n) any = past_or_now past now n any

  long_more : (past : List (List (Stage R))) (now : List (Stage R)) → length (past ++ now ∷ []) ≡ suc (length past)
  long_more [] now = refl
  long_more (over ∷ past) now = ap suc (long_more past now)

  -- ---- what is reported

  -- where all suit, they do after one more suits
  suit_set : (suits : ℕ → R → Type 0) (all : List (Stage R)) (number : ℕ) (y : Stage R) → SuitsAt suits number y → ((k : ℕ) (x : Stage R) → get_elem? all k ≡ some x → SuitsAt suits k x) → (k : ℕ) (x : Stage R) → get_elem? (set all number y) k ≡ some x → SuitsAt suits k x
  suit_set suits all number y mine others k x e =
      ⊎_elim
      (λ (t : (k ≡ number) × (y ≡ x)). subst (λ (p : ℕ × Stage R). SuitsAt suits p.0 p.1) (λ j. (sym t.0 j, t.1 j)) mine)
      (λ (t : (k ≢ number) × (get_elem? all k ≡ some x)). others k x t.1)
      (at_set all number k y x e)

  report_suits : (suits : ℕ → R → Type 0) (k : ℕ) (x : Stage R) (r : R) → reported_at x ≡ Some r → SuitsAt suits k x → suits k r
  report_suits suits k waits r e fine = absurd (cc)
  report_suits suits k sits r e fine = absurd (cc)
  report_suits suits k (gave own) r e fine = subst (suits k) (same_some own r e) fine
  report_suits suits k (took own results) r e fine = subst (suits k) (same_some own r e) fine

  shift_suits : (suits : ℕ → R → Type 0) (k : ℕ) (x : Stage R) → SuitsAt suits (suc k) x → SuitsAt (λ j. suits (suc j)) k x
  shift_suits suits k waits fine = fine
  shift_suits suits k sits fine = fine
  shift_suits suits k (gave own) fine = fine
  shift_suits suits k (took own results) fine = fine

  abbrev rest_of : List (Option R) → List (Option R)
  rest_of [] = []
  rest_of (o ∷ os) = os

  -- so all results suit
  all_suit : (suits : ℕ → R → Type 0) (xs : List (Stage R)) (results : List R) → ((k : ℕ) (x : Stage R) → get_elem? xs k ≡ some x → SuitsAt suits k x) → map reported_at xs ≡ map Some results → (k : ℕ) (r : R) → slice_get results k ≡ Some r → suits k r
  all_suit suits xs [] fine is k r e = absurd (cc)
  all_suit suits [] (y ∷ results) fine is k r e = absurd (cc)
  all_suit suits (x ∷ xs) (y ∷ results) fine is zero r e =
      let first : reported_at x ≡ Some y = cc in
      report_suits suits 0 x r (first ∙ e) (fine 0 x refl)
  all_suit suits (x ∷ xs) (y ∷ results) fine is (suc k) r e =
      let others : map reported_at xs ≡ map Some results = ap rest_of is in
      all_suit (λ j. suits (suc j)) xs results (λ j z at. shift_suits suits j z (fine (suc j) z at)) others k r e

  -- who has reported took nothing, where no one took anything
  no_results : (xs ys : List (Stage R)) → takers xs ≡ 0 → (number : ℕ) (own : R) (results : List R) → get_elem? xs number ≡ some (took own results) → map reported_at ys ≡ map Some results
  no_results xs ys no_taker number own results e = absurd (omega (arith, taker_there xs number (took own results) e))

  -- an open place is awaited
  open_awaited : (xs : List (Stage R)) (i : ℕ) (x : Stage R) → get_elem? xs i ≡ some x → IsOpen x → 0 < awaited xs
  open_awaited xs i waits e is = omega (arith, awaited_there xs i waits e)
  open_awaited xs i sits e is = omega (arith, awaited_there xs i sits e)
  open_awaited xs i (gave own) e is = absurd is
  open_awaited xs i (took own results) e is = absurd is

  none_open : (xs : List (Stage R)) → awaited xs ≡ 0 → (i : ℕ) (x : Stage R) → get_elem? xs i ≡ some x → IsOpen x → ⊥
  none_open xs none_left i x e is = let some_left = open_awaited xs i x e is in omega arith

-- another seat may convene the next round
abbrev next_by : Owners → ℕ → Owners
next_by owners id = record owners { next = id }

module _ {T R : Type 0} where
  -- all views fit
  abbrev AllFit : Rounds T R → Owners → List (RoundView T R) → Type 0
  AllFit rounds owners views = (id : ℕ) (v : RoundView T R) → get_elem? views id ≡ some v → Fits rounds owners id v

  -- the rounds after a step of one place
  abbrev with_stage : Rounds T R → ℕ → Stage R → Rounds T R
  with_stage rounds number y = record rounds { now = set rounds.now number y }

  -- an open place stands in the present round
  now_at : (rounds : Rounds T R) (owners : Owners) (id : ℕ) (v : RoundView T R) (i : ℕ) (x : Stage R) → Fits rounds owners id v → get_elem? v.stages i ≡ some x → IsOpen x → get_elem? rounds.now (v.from + i) ≡ some x
  now_at rounds owners id v i x fit here is = ap (λ (l : List (Stage R)). get_elem? l (v.from + i)) (sym (round_now rounds.past rounds.now v.round (fit.owned i x here is).1)) ∙ fit.known i x here

  -- what a view knows of a place that stays as it is
  known_else : (rounds : Rounds T R) (number n k : ℕ) (y z : Stage R) → (n ≡ length rounds.past → k ≢ number) → get_elem? (round_of rounds.past rounds.now n) k ≡ some z → get_elem? (round_of rounds.past (set rounds.now number y) n) k ≡ some z
  known_else rounds number n k y z apart e = dite (ℕ_discrete n (length rounds.past))
      (λ is. ap (λ (l : List (Stage R)). get_elem? l k) (round_now rounds.past (set rounds.now number y) n is) ∙ set_else rounds.now number k y (apart is) ∙ ap (λ (l : List (Stage R)). get_elem? l k) (sym (round_now rounds.past rounds.now n is)) ∙ e)
      (λ far. ap (λ (l : List (Stage R)). get_elem? l k) (sym (round_else rounds.past rounds.now (set rounds.now number y) n far)) ∙ e)

  same_size : (rounds : Rounds T R) (number n : ℕ) (y : Stage R) → length (round_of rounds.past (set rounds.now number y) n) ≡ length (round_of rounds.past rounds.now n)
  same_size rounds number n y = dite (ℕ_discrete n (length rounds.past))
      (λ is. ap length (round_now rounds.past (set rounds.now number y) n is) ∙ length-set rounds.now number y ∙ ap length (sym (round_now rounds.past rounds.now n is)))
      (λ far. ap length (sym (round_else rounds.past rounds.now (set rounds.now number y) n far)))

  -- the seat that steps, before and after
  record Moves (v w : RoundView T R) (i : ℕ) (y : Stage R) : Type 0 where
    topic : w.topic ≡ v.topic
    round : w.round ≡ v.round
    size : w.size ≡ v.size
    from : w.from ≡ v.from
    stages : w.stages ≡ set v.stages i y

  -- an open place is further
  module _ (rounds : Rounds T R) (owners : Owners) (id : ℕ) (v w : RoundView T R) (i : ℕ) (x y : Stage R) (next : ℕ) (fit : Fits rounds owners id v) (here : get_elem? v.stages i ≡ some x) (is : IsOpen x) (moves : Moves v w i y)
      (over : w.convenes ≡ true → (next ≡ id) × (awaited (set rounds.now (v.from + i) y) ≡ 0)) where
    abbrev number : ℕ
    number = v.from + i

    mine_fits : Fits (with_stage rounds number y) (next_by owners next) id w
    mine_fits = record {
      known = λ k z e. ⊎_elim
          (λ (t : (k ≡ i) × (y ≡ z)). let same : w.from + k ≡ number = omega (arith, moves.from, t.0) in
          ap (λ (n : ℕ). get_elem? (round_of rounds.past (set rounds.now number y) w.round) n) same ∙ ap (λ (l : List (Stage R)). get_elem? l number) (round_now rounds.past (set rounds.now number y) w.round (moves.round ∙ (fit.owned i x here is).1)) ∙ set_there rounds.now number x y (now_at rounds owners id v i x fit here is) ∙ ap some t.1)
          (λ (t : (k ≢ i) × (get_elem? v.stages k ≡ some z)). let same : w.from + k ≡ v.from + k = omega (arith, moves.from) in
          ap (λ (n : ℕ). get_elem? (round_of rounds.past (set rounds.now number y) w.round) n) same ∙ ap (λ (n : ℕ). get_elem? (round_of rounds.past (set rounds.now number y) n) (v.from + k)) moves.round
          ∙ known_else rounds number v.round (v.from + k) y z (λ _ e'. t.0 (omega (arith, e'))) (fit.known k z t.1))
          (at_set v.stages i k y z (ap (λ (l : List (Stage R)). get_elem? l k) (sym moves.stages) ∙ e));
      owned = λ k z e opens. let same : w.from + k ≡ v.from + k = omega (arith, moves.from) in ⊎_elim
          (λ (t : (k ≡ i) × (y ≡ z)). let f = fit.owned i x here is in
          (ap owners.places same ∙ ap (λ (n : ℕ). owners.places (v.from + n)) t.0 ∙ f.0, moves.round ∙ f.1, moves.topic ∙ f.2))
          (λ (t : (k ≢ i) × (get_elem? v.stages k ≡ some z)). let f = fit.owned k z t.1 opens in
          (ap owners.places same ∙ f.0, moves.round ∙ f.1, moves.topic ∙ f.2))
          (at_set v.stages i k y z (ap (λ (l : List (Stage R)). get_elem? l k) (sym moves.stages) ∙ e));
      size = λ _. ap (λ (n : ℕ). length (round_of rounds.past (set rounds.now number y) n)) moves.round ∙ same_size rounds number v.round y ∙ fit.size (some_later v.stages i x here) ∙ sym moves.size;
      convener = λ can. let f = over can in (f.0, f.1, moves.round ∙ (fit.owned i x here is).1, length-set rounds.now number y ∙ ap length (sym (round_now rounds.past rounds.now v.round (fit.owned i x here is).1)) ∙ fit.size (some_later v.stages i x here) ∙ sym moves.size);
    }

    theirs_fits : (j : ℕ) (u : RoundView T R) → j ≢ id → Fits rounds owners j u → Fits (with_stage rounds number y) (next_by owners next) j u
    theirs_fits j u apart theirs = record {
      known = λ k z e. known_else rounds number u.round (u.from + k) y z
          (λ present same. apart (let mine = fit.owned i x here is in
          let at = ap (λ (n : ℕ). get_elem? rounds.now n) (sym same) ∙ ap (λ (l : List (Stage R)). get_elem? l (u.from + k)) (sym (round_now rounds.past rounds.now u.round present)) ∙ theirs.known k z e in
          let one : x ≡ z = some-injective x z (sym (now_at rounds owners id v i x fit here is) ∙ at) in
          sym (theirs.owned k z e (subst IsOpen one is)).0 ∙ ap owners.places same ∙ mine.0))
          (theirs.known k z e);
      owned = theirs.owned;
      size = λ any. same_size rounds number u.round y ∙ theirs.size any;
      convener = λ can. let none_left = (theirs.convener can).1 in let some_left = open_awaited rounds.now number x (now_at rounds owners id v i x fit here is) is in absurd (omega arith);
    }

  all_fit_step : (rounds : Rounds T R) (owners : Owners) (views : List (RoundView T R)) (id : ℕ) (v w : RoundView T R) (i : ℕ) (x y : Stage R) (next : ℕ) → AllFit rounds owners views → get_elem? views id ≡ some v → get_elem? v.stages i ≡ some x → IsOpen x → Moves v w i y
      → (w.convenes ≡ true → (next ≡ id) × (awaited (set rounds.now (v.from + i) y) ≡ 0)) → AllFit (with_stage rounds (v.from + i) y) (next_by owners next) (set views id w)
  all_fit_step rounds owners views id v w i x y next fits at here is moves over j u e =
      ⊎_elim
      (λ (t : (j ≡ id) × (w ≡ u)). subst (λ (p : ℕ × RoundView T R). Fits (with_stage rounds (v.from + i) y) (next_by owners next) p.0 p.1) (λ k. (sym t.0 k, t.1 k)) (mine_fits rounds owners id v w i x y next (fits id v at) here is moves over))
      (λ (t : (j ≢ id) × (get_elem? views j ≡ some u)). theirs_fits rounds owners id v w i x y next (fits id v at) here is moves over j u t.0 (fits j u t.1))
      (at_set views id j w u e)

  -- who has an open place may not convene
  not_over : (rounds : Rounds T R) (owners : Owners) (id : ℕ) (v : RoundView T R) (i : ℕ) (x : Stage R) → Fits rounds owners id v → get_elem? v.stages i ≡ some x → IsOpen x → v.convenes ≡ true → ⊥
  not_over rounds owners id v i x fit here is can = none_open rounds.now (fit.convener can).1 (v.from + i) x (now_at rounds owners id v i x fit here is) is

  -- ---- the steps

  -- the opening keeps the rule
  pub begins : (suits : T → ℕ → R → Type 0) (slots : ℕ) → Meets suits (opening (0 ∷ []) (replicate slots None) at_first)
  begins suits slots = record {
    rounds = none_yet;
    owners = first_owner;
    spare = slots;
    count = refl;
    homes = all_home slots;
    finished = λ n stages e. absurd (some-ne-none stages (sym e));
    one_taker = λ z any. absurd (omega arith);
    no_taker = λ any. absurd (omega arith);
    results = λ number own results e. absurd (some-ne-none _ (sym e));
    suit = λ topic is number x e. absurd (some-ne-none x (sym e));
    fits = one;
  }
    where
      none_yet : Rounds T R
      none_yet = record { past = []; now = []; topic = None }

      first_owner : Owners
      first_owner = record { places = λ _. 0; next = 0 }

      all_home : (n : ℕ) → map some (replicate n None) ≡ homes_spare {R = R} n
      all_home zero = refl
      all_home (suc n) = ap (λ l. some None ∷ l) (all_home n)

      first : Fits none_yet first_owner 0 at_first
      first = record {
        known = λ i x e. absurd (some-ne-none x (sym e));
        owned = λ i x e is. absurd (some-ne-none x (sym e));
        size = λ any. absurd (omega arith);
        convener = λ _. (refl, refl, refl, refl);
      }

      one : AllFit none_yet first_owner (at_first ∷ [])
      one zero v e = subst (Fits none_yet first_owner 0) (some-injective at_first v e) first
      one (suc j) v e = absurd (some-ne-none v (sym e))

  -- what lies at home of the round, while a place of it is open
  open_homes : (suits : T → ℕ → R → Type 0) (s : State (Option R) (RoundView T R)) (holds : Meets suits s) → 0 < awaited holds.rounds.now → s.homes ≡ map home holds.rounds.now ++ homes_spare holds.spare
  open_homes suits s holds some_left = holds.homes ∙ ap (λ (l : List (found.Option (Option R))). l ++ homes_spare holds.spare) (homes_open (awaited holds.rounds.now) holds.rounds.now some_left)

  -- a place may take its slot
  pub sits_down : (suits : T → ℕ → R → Type 0) (slots id : ℕ) (me : Me (Option R) (RoundView T R)) (i : ℕ) → get_elem? me.0.stages i ≡ some waits → Allows (Meets suits) slots id me 0 (λ n. n) (λ n after. IsSeated i me after)
  sits_down suits slots id me i waiting s holds long at small =
      let v = me.0 in
      let number : ℕ = v.from + i in
      let now = holds.rounds.now in
      let after : List (Stage R) = set now number sits in
      let fit = holds.fits id v at in
      let here = now_at holds.rounds holds.owners id v i waits fit waiting tt in
      let some_left = awaited_there now number waits here in
      let as_many = awaited_set now number waits sits here in
      let same : awaited after ≡ awaited now = omega arith in
      let none_took = holds.no_taker (omega arith) in
      let still_none = takers_set now number waits sits here in
      let none_takes : takers after ≡ 0 = omega arith in
      let open_before = open_homes suits s holds (omega arith) in
      let home_here = at_map home now number waits here in (
        at_stage v i sits,
        takes number None,
        ap (λ (l : List (found.Option (Option R))). get_elem? l number) open_before ∙ append_at (map home now) (homes_spare holds.spare) number (some None) home_here,
        record {
          rounds = with_stage holds.rounds number sits;
          owners = next_by holds.owners holds.owners.next;
          spare = holds.spare;
          count = ap (λ (w : List ℕ). set w 0 (slice_index w 0)) holds.count ∙ ap (λ (k : ℕ). k ∷ []) (sym same);
          homes = ap (λ (l : List (found.Option (Option R))). set l number none) open_before ∙ append_set (map home now) (homes_spare holds.spare) number (some None) none home_here
              ∙ ap (λ (l : List (found.Option (Option R))). l ++ homes_spare holds.spare) (sym (map-set home now number sits) ∙ sym (homes_open (awaited after) after (omega arith)));
          finished = holds.finished;
          one_taker = λ z any. absurd (omega arith);
          no_taker = λ _. none_takes;
          results = no_results after after none_takes;
          suit = λ topic is. suit_set (suits topic) now number sits tt (holds.suit topic is);
          fits = all_fit_step holds.rounds holds.owners s.views id v (at_stage v i sits) i waits sits holds.owners.next holds.fits at waiting tt (record { topic = refl; round = refl; size = refl; from = refl; stages = refl })
              (λ can. absurd (not_over holds.rounds holds.owners id v i waits fit waiting tt can));
        },
        refl,
      )

  -- who has all places of a round knows how far each of them is
  whole_is : (rounds : Rounds T R) (owners : Owners) (id : ℕ) (v : RoundView T R) → Fits rounds owners id v → 0 < length v.stages → IsWhole v → v.stages ≡ round_of rounds.past rounds.now v.round
  whole_is rounds owners id v fit any whole =
      same_lists v.stages (round_of rounds.past rounds.now v.round) (whole.1 ∙ sym (fit.size any)) (λ i x e. let same : v.from + i ≡ i = omega (arith, whole.0) in ap (λ (k : ℕ). get_elem? (round_of rounds.past rounds.now v.round) k) (sym same) ∙ fit.known i x e)

  -- of the present round, if one of them is open
  whole_now : (rounds : Rounds T R) (owners : Owners) (id : ℕ) (v : RoundView T R) (i : ℕ) (x : Stage R) → Fits rounds owners id v → get_elem? v.stages i ≡ some x → IsOpen x → IsWhole v → v.stages ≡ rounds.now
  whole_now rounds owners id v i x fit here is whole = whole_is rounds owners id v fit (some_later v.stages i x here) whole ∙ round_now rounds.past rounds.now v.round (fit.owned i x here is).1

  -- how many places the present round has
  size_now : (rounds : Rounds T R) (owners : Owners) (id : ℕ) (v : RoundView T R) (i : ℕ) (x : Stage R) → Fits rounds owners id v → get_elem? v.stages i ≡ some x → IsOpen x → length rounds.now ≡ v.size
  size_now rounds owners id v i x fit here is = ap length (sym (round_now rounds.past rounds.now v.round (fit.owned i x here is).1)) ∙ fit.size (some_later v.stages i x here)

  -- the seat has reported, and the rule is kept, where these many were found
  abbrev Goes : (T → ℕ → R → Type 0) → State (Option R) (RoundView T R) → ℕ → Me (Option R) (RoundView T R) → ℕ → ℕ → R → Type 0
  Goes suits s id me i n own = (w : RoundView T R) × (a : Act (Option R)) × Valid s.homes me.1 a
      × Meets suits (stepped s 0 ((n + (2 ^ 64 - 1)) % 2 ^ 64) id me.1 w a) × IsReported suits i own me.0 n (w, carried_after me.1 a)

  module _ (suits : T → ℕ → R → Type 0) (s : State (Option R) (RoundView T R)) (holds : Meets suits s) (id : ℕ) (me : Me (Option R) (RoundView T R)) (i : ℕ) (own : R) (at : get_elem? s.views id ≡ some me.0)
      (sitting : get_elem? me.0.stages i ≡ some sits) (carry : me.1 ≡ (me.0.from + i, Some own) ∷ []) (suited : (topic : T) → holds.rounds.topic ≡ Some topic → suits topic (me.0.from + i) own) (small : awaited holds.rounds.now < 18446744073709551616) where
    -- it is not the last
    goes_on : awaited holds.rounds.now ≢ 1 → Goes suits s id me i (awaited holds.rounds.now) own
    goes_on more =
        let v = me.0 in
        let number : ℕ = v.from + i in
        let now = holds.rounds.now in
        let after : List (Stage R) = set now number (gave own) in
        let fit = holds.fits id v at in
        let here = now_at holds.rounds holds.owners id v i sits fit sitting tt in
        let some_left = awaited_there now number sits here in
        let fewer = awaited_set now number sits (gave own) here in
        let none_took = holds.no_taker (omega arith) in
        let still_none = takers_set now number sits (gave own) here in
        let none_takes : takers after ≡ 0 = omega arith in
        let left : 0 < awaited after = ⊎_elim (λ (p : 0 < awaited after). p) (λ (z : awaited after ≡ 0). absurd (more (omega arith))) (some_or_none (awaited after)) in
        let less = one_less (awaited now) (omega arith) small in
        let counted : (awaited now + (2 ^ 64 - 1)) % 2 ^ 64 ≡ awaited after = less ∙ omega arith in
        let open_before = open_homes suits s holds (omega arith) in
        let home_here = at_map home now number sits here in (
          at_stage v i (gave own),
          gives,
          tt,
          record {
            rounds = with_stage holds.rounds number (gave own);
            owners = next_by holds.owners holds.owners.next;
            spare = holds.spare;
            count = ap (λ (w : List ℕ). set w 0 ((awaited now + (2 ^ 64 - 1)) % 2 ^ 64)) holds.count ∙ ap (λ (k : ℕ). k ∷ []) counted;
            homes = ap (λ (c : List (ℕ × Option R)). put_back s.homes c) carry ∙ ap (λ (l : List (found.Option (Option R))). set l number (some (Some own))) open_before
                ∙ append_set (map home now) (homes_spare holds.spare) number none (some (Some own)) home_here
                ∙ ap (λ (l : List (found.Option (Option R))). l ++ homes_spare holds.spare) (sym (map-set home now number (gave own)) ∙ sym (homes_open (awaited after) after left));
            finished = holds.finished;
            one_taker = λ z any. absurd (omega arith);
            no_taker = λ _. none_takes;
            results = no_results after after none_takes;
            suit = λ topic is. suit_set (suits topic) now number (gave own) (suited topic is) (holds.suit topic is);
            fits = all_fit_step holds.rounds holds.owners s.views id v (at_stage v i (gave own)) i sits (gave own) holds.owners.next holds.fits at sitting tt (record { topic = refl; round = refl; size = refl; from = refl; stages = refl })
                (λ can. absurd (not_over holds.rounds holds.owners id v i sits fit sitting tt can));
          },
          record {
            not_last = λ _. ap (λ (c : List (ℕ × Option R)). (at_stage v i (gave own), rest c)) carry;
            last = λ one. absurd (more one);
            counted = λ whole. ap awaited (sym (whole_now holds.rounds holds.owners id v i sits fit sitting tt whole));
          },
        )

    -- it is the last
    comes_last : awaited holds.rounds.now ≡ 1 → Goes suits s id me i (awaited holds.rounds.now) own
    comes_last one =
        let v = me.0 in
        let number : ℕ = v.from + i in
        let now = holds.rounds.now in
        let given : List (Stage R) = set now number (gave own) in
        let fit = holds.fits id v at in
        let here = now_at holds.rounds holds.owners id v i sits fit sitting tt in
        let fewer = awaited_set now number sits (gave own) here in
        let none_given : awaited given ≡ 0 = omega arith in
        let told = all_reported_at given none_given in
        let results : List R = told.0 in
        let after : List (Stage R) = set now number (took own results) in
        let fewer_after = awaited_set now number sits (took own results) here in
        let none_after : awaited after ≡ 0 = omega arith in
        let none_took = holds.no_taker (omega arith) in
        let given_none = takers_set now number sits (gave own) here in
        let none_takes : takers given ≡ 0 = omega arith in
        let after_one = takers_set now number sits (took own results) here in
        let same_reports : map reported_at after ≡ map reported_at given = map-set reported_at now number (took own results) ∙ sym (map-set reported_at now number (gave own)) in
        let less = one_less (awaited now) (omega arith) small in
        let counted : (awaited now + (2 ^ 64 - 1)) % 2 ^ 64 ≡ awaited after = less ∙ omega arith in
        let open_before = open_homes suits s holds (omega arith) in
        let home_here = at_map home now number sits here in
        let spare = homes_spare {R = R} holds.spare in
        let long_given : length given ≡ length now = length-set now number (gave own) in
        let long_after : length after ≡ length now = length-set now number (took own results) in
        let long_results : length results ≡ length now = sym (length-map results Some) ∙ sym (ap length told.1) ∙ length-map given reported_at ∙ long_given in
        let full : put_back s.homes me.1 ≡ map some (map Some results) ++ spare =
        ap (λ (c : List (ℕ × Option R)). put_back s.homes c) carry ∙ ap (λ (l : List (found.Option (Option R))). set l number (some (Some own))) open_before
        ∙ append_set (map home now) spare number none (some (Some own)) home_here
        ∙ ap (λ (l : List (found.Option (Option R))). l ++ spare) (sym (map-set home now number (gave own)) ∙ homes_full given results none_takes told.1) in
        let long_full : length (map some (map Some results)) ≡ length results = length-map (map Some results) some ∙ length-map results Some in
        let emptied = ap (λ (l : List (found.Option (Option R))). homes_after l (rest me.1) (takes_from 0 results)) full ∙ homes_emptied results (map some (map Some results)) spare (rest me.1) long_full in
        let carried = ap (λ (c : List (ℕ × Option R)). carried_after (rest c) (takes_from 0 results)) carry ∙ carried_all 0 results in (
          at_last v i (took own results),
          chain gives (takes_from 0 results),
          (tt, subst (λ (l : List (found.Option (Option R))). Valid l (rest me.1) (takes_from 0 results)) (sym full) (all_valid results spare (rest me.1))),
          record {
            rounds = with_stage holds.rounds number (took own results);
            owners = next_by holds.owners id;
            spare = holds.spare;
            count = ap (λ (w : List ℕ). set w 0 ((awaited now + (2 ^ 64 - 1)) % 2 ^ 64)) holds.count ∙ ap (λ (k : ℕ). k ∷ []) counted;
            homes = emptied ∙ ap (λ (l : List (found.Option (Option R))). l ++ spare) (none_at_home results after (long_results ∙ sym long_after) ∙ sym (homes_shut (awaited after) after none_after));
            finished = holds.finished;
            one_taker = λ _ _. omega arith;
            no_taker = λ some_left. absurd (omega arith);
            results = who_took now number own results none_took (same_reports ∙ told.1);
            suit = λ topic is. suit_set (suits topic) now number (took own results) (suited topic is) (holds.suit topic is);
            fits = all_fit_step holds.rounds holds.owners s.views id v (at_last v i (took own results)) i sits (took own results) id holds.fits at sitting tt (record { topic = refl; round = refl; size = refl; from = refl; stages = refl })
                (λ _. (refl, none_after));
          },
          record {
            not_last = λ more. absurd (more one);
            last = λ _. (
              results,
              ap (λ (c : List (ℕ × Option R)). (at_last v i (took own results), c)) carried,
              long_results ∙ size_now holds.rounds holds.owners id v i sits fit sitting tt,
              result_there results number own (ap (λ (l : List (Option R)). get_elem? l number) (sym told.1) ∙ at_map reported_at given number (gave own) (set_there now number sits (gave own) here)),
              λ whole. let same = whole_now holds.rounds holds.owners id v i sits fit sitting tt whole in
                  let first : i ≡ number = omega (arith, whole.0) in
                  ap (λ (l : List (Stage R)). map reported_at (set l i (gave own))) same ∙ ap (λ (k : ℕ). map reported_at (set now k (gave own))) first ∙ told.1,
              λ topic is. let about = sym (fit.owned i sits sitting tt).2 ∙ is in
                  all_suit (suits topic) given results (suit_set (suits topic) now number (gave own) (suited topic about) (holds.suit topic about)) told.1,
            );
            counted = λ whole. ap awaited (sym (whole_now holds.rounds holds.owners id v i sits fit sitting tt whole));
          },
        )
      where
        results_of : Stage R → List R
        results_of waits = []
        results_of sits = []
        results_of (gave own) = []
        results_of (took own results) = results

        who_took : (all : List (Stage R)) (number : ℕ) (own : R) (results : List R) → takers all ≡ 0 → map reported_at (set all number (took own results)) ≡ map Some results
            → (k : ℕ) (x : R) (xs : List R) → get_elem? (set all number (took own results)) k ≡ some (took x xs) → map reported_at (set all number (took own results)) ≡ map Some xs
        who_took all number own results none_took all_reports k x xs e =
            ⊎_elim
            (λ (t : (k ≡ number) × (took own results ≡ took x xs)). all_reports ∙ ap (λ (y : Stage R). map Some (results_of y)) t.1)
            (λ (t : (k ≢ number) × (get_elem? all k ≡ some (took x xs))). absurd (omega (arith, taker_there all k (took x xs) t.1)))
            (at_set all number k (took own results) (took x xs) e)

  -- a place that has its slot may report
  pub reports : (suits : T → ℕ → R → Type 0) (slots id : ℕ) (me : Me (Option R) (RoundView T R)) (i slot : ℕ) (own : R) → get_elem? me.0.stages i ≡ some sits → slot ≡ me.0.from + i → me.1 ≡ (slot, Some own) ∷ [] → ((topic : T) → me.0.topic ≡ Some topic → suits topic slot own)
      → Allows (Meets suits) slots id me 0 (λ n. (n + (2 ^ 64 - 1)) % 2 ^ 64) (λ n after. Reports suits i me n after)
  reports suits slots id me i slot own sitting is carry suited s holds long at small =
      let now = holds.rounds.now in
      let word : awaited now ≡ slice_index s.words 0 = sym (ap (λ (w : List ℕ). slice_index w 0) holds.count) in
      let carry_here = carry ∙ ap (λ (k : ℕ). (k, Some own) ∷ []) is in
      let about = (holds.fits id me.0 at).owned i sits sitting tt in
      let suited_here : (topic : T) → holds.rounds.topic ≡ Some topic → suits topic (me.0.from + i) own = λ topic e. subst (λ (n : ℕ). suits topic n own) is (suited topic (about.2 ∙ e)) in
      let small_here = subst (λ (k : ℕ). k < 18446744073709551616) (sym word) small in
      let goes : Goes suits s id me i (awaited now) own = dite (ℕ_discrete (awaited now) 1)
      (λ one. comes_last suits s holds id me i own at sitting carry_here suited_here small_here one)
      (λ more. goes_on suits s holds id me i own at sitting carry_here suited_here small_here more) in
      let there : Goes suits s id me i (slice_index s.words 0) own = subst (λ (n : ℕ). Goes suits s id me i n own) word goes in (
        there.0,
        there.1,
        there.2,
        there.3,
        λ k other e. subst (λ (o : R). IsReported suits i o me.0 (slice_index s.words 0) (there.0, carried_after me.1 there.1)) (same_own slot k own other (sym carry ∙ e)) there.4,
      )
    where
      held : List (ℕ × Option R) → Option R
      held [] = None
      held (x ∷ xs) = x.1

      carries : ℕ → R → List (ℕ × Option R)
      carries k o = (k, Some o) ∷ []

      same_own : (k j : ℕ) (a b : R) → carries k a ≡ carries j b → a ≡ b
      same_own k j a b e = same_some a b (ap held e)

-- ---- seats part and come together

-- who has a place, once a new seat has the one at this number
abbrev handed : ℕ → ℕ → (ℕ → ℕ) → ℕ → ℕ
handed number new owner n = cond (eqb n number) new (owner n)

handed_here : (number new : ℕ) (owner : ℕ → ℕ) (n : ℕ) → n ≡ number → handed number new owner n ≡ new
handed_here number new owner n e = ap (λ b. cond b new (owner n)) (eq-eqb n number e)

handed_else : (number new : ℕ) (owner : ℕ → ℕ) (n : ℕ) → n ≢ number → handed number new owner n ≡ owner n
handed_else number new owner n e = ap (λ b. cond b new (owner n)) (ne_eqb n number e)

module _ {R : Type 0} where
  first_one_at : (l : List (Stage R)) (i : ℕ) (x : Stage R) → get_elem? (first_one l) i ≡ some x → (i ≡ 0) × (get_elem? l 0 ≡ some x)
  first_one_at [] i x e = absurd (some-ne-none x (sym e))
  first_one_at (y ∷ l) zero x e = (refl, e)
  first_one_at (y ∷ l) (suc i) x e = absurd (some-ne-none x (sym e))

  some_of_first : (l : List (Stage R)) → 0 < length (first_one l) → 0 < length l
  some_of_first [] any = any
  some_of_first (y ∷ l) any = omega arith

module _ {A : Type 0} where
  long_replicate : (n : ℕ) (x : A) → length (replicate n x) ≡ n
  long_replicate zero x = refl
  long_replicate (suc n) x = ap suc (long_replicate n x)

  replicate_more : (n m : ℕ) (x : A) → replicate n x ++ replicate m x ≡ replicate (n + m) x
  replicate_more zero m x = let same : m ≡ 0 + m = omega arith in ap (λ (k : ℕ). replicate k x) same
  replicate_more (suc n) m x = let same : suc (n + m) ≡ suc n + m = omega arith in ap (λ l. x ∷ l) (replicate_more n m x) ∙ ap (λ (k : ℕ). replicate k x) same

  long_append : (xs ys : List A) → length (xs ++ ys) ≡ length xs + length ys
  long_append [] ys = omega arith
  long_append (x ∷ xs) ys = omega (arith, long_append xs ys)

module _ {R : Type 0} where
  -- no slot of a round is at home
  none_each : (xs : List (Stage R)) → map {B = found.Option (Option R)} (λ _. none) xs ≡ replicate (length xs) none
  none_each [] = refl
  none_each (x ∷ xs) = ap (λ l. none ∷ l) (none_each xs)

  -- each slot of a new round is
  home_each : (n : ℕ) → map home (replicate {A = Stage R} n waits) ≡ homes_spare n
  home_each zero = refl
  home_each (suc n) = ap (λ l. some None ∷ l) (home_each n)

module _ {T R : Type 0} where
  -- the rule with the same rounds, and other views
  abbrev same_rounds : (suits : T → ℕ → R → Type 0) (s : State (Option R) (RoundView T R)) (holds : Meets suits s) (owners : Owners) (views : List (RoundView T R)) → AllFit holds.rounds owners views → Meets suits (record { words = s.words; homes = s.homes; views = views })
  same_rounds suits s holds owners views fits = record {
    rounds = holds.rounds;
    owners = owners;
    spare = holds.spare;
    count = holds.count;
    homes = holds.homes;
    finished = holds.finished;
    one_taker = holds.one_taker;
    no_taker = holds.no_taker;
    results = holds.results;
    suit = holds.suit;
    fits = fits;
  }

  -- the views after a seat has parted
  parted_fit : (rounds : Rounds T R) (owners after : Owners) (views : List (RoundView T R)) (id : ℕ) (left right : RoundView T R) → Fits rounds after id left → Fits rounds after (length views) right → ((j : ℕ) (u : RoundView T R) → j ≢ id → get_elem? views j ≡ some u → Fits rounds after j u)
      → AllFit rounds after (set views id left ++ right ∷ [])
  parted_fit rounds owners after views id left right mine new theirs j u e =
      let long : length (set views id left) ≡ length views = length-set views id left in
      ⊎_elim
      (λ (was : get_elem? (set views id left) j ≡ some u). ⊎_elim
      (λ (t : (j ≡ id) × (left ≡ u)). subst (λ (p : ℕ × RoundView T R). Fits rounds after p.0 p.1) (λ k. (sym t.0 k, t.1 k)) mine)
      (λ (t : (j ≢ id) × (get_elem? views j ≡ some u)). theirs j u t.0 t.1)
      (at_set views id j left u was))
      (λ (t : (j ≡ length (set views id left)) × (right ≡ u)). subst (λ (p : ℕ × RoundView T R). Fits rounds after p.0 p.1) (λ k. (sym (t.0 ∙ long) k, t.1 k)) new)
      (at_end (set views id left) right u j e)

  -- what stays of a view whose first place goes
  others_known : (rounds : Rounds T R) (owners : Owners) (id : ℕ) (v : RoundView T R) → Fits rounds owners id v → (i : ℕ) (x : Stage R) → get_elem? (drop 1 v.stages) i ≡ some x → get_elem? (round_of rounds.past rounds.now v.round) (suc v.from + i) ≡ some x
  others_known rounds owners id v fit i x e =
      let same : suc v.from + i ≡ v.from + suc i = omega arith in
      ap (λ (n : ℕ). get_elem? (round_of rounds.past rounds.now v.round) n) same ∙ fit.known (suc i) x (after_first v.stages i x e)

  first_known : (rounds : Rounds T R) (owners : Owners) (id : ℕ) (v : RoundView T R) → Fits rounds owners id v → (i : ℕ) (x : Stage R) → get_elem? (first_one v.stages) i ≡ some x → get_elem? (round_of rounds.past rounds.now v.round) (v.from + i) ≡ some x
  first_known rounds owners id v fit i x e =
      let one = first_one_at v.stages i x e in
      let same : v.from + i ≡ v.from + 0 = omega (arith, one.0) in
      ap (λ (n : ℕ). get_elem? (round_of rounds.past rounds.now v.round) n) same ∙ fit.known 0 x one.1

  -- the first place of a view, which waits, may go to a new seat
  pub parts : (suits : T → ℕ → R → Type 0) (id : ℕ) (v : RoundView T R) → get_elem? v.stages 0 ≡ some waits → Splits (Meets suits) id v (others v) (first_of v)
  parts suits id v first s holds at =
      let rounds = holds.rounds in
      let fit = holds.fits id v at in
      let here = fit.owned 0 waits first tt in
      let new : ℕ = length s.views in
      let owners : Owners = record holds.owners { places = handed v.from new holds.owners.places } in
      let left : Fits rounds owners id (others v) = record {
        known = others_known rounds holds.owners id v fit;
        owned = λ i x e is. let f = fit.owned (suc i) x (after_first v.stages i x e) is in
            let same : suc v.from + i ≡ v.from + suc i = omega arith in
            (handed_else v.from new holds.owners.places (suc v.from + i) (λ h. omega (arith, h)) ∙ ap holds.owners.places same ∙ f.0, f.1, f.2);
        size = λ any. fit.size (fewer_dropped v.stages any);
        convener = fit.convener;
      } in
      let right : Fits rounds owners new (first_of v) = record {
        known = first_known rounds holds.owners id v fit;
        owned = λ i x e is. let one = first_one_at v.stages i x e in
            (handed_here v.from new holds.owners.places (v.from + i) (omega (arith, one.0)), here.1, here.2);
        size = λ any. fit.size (some_of_first v.stages any);
        convener = λ can. absurd (true≢false (sym can));
      } in
      let theirs : (j : ℕ) (u : RoundView T R) → j ≢ id → get_elem? s.views j ≡ some u → Fits rounds owners j u = λ j u apart e. let f = holds.fits j u e in record {
        known = f.known;
        owned = λ i x at_i is. let g = f.owned i x at_i is in
            let same : v.from ≡ v.from + 0 = omega arith in
            (handed_else v.from new holds.owners.places (u.from + i) (λ h. apart (sym g.0 ∙ ap holds.owners.places (h ∙ same) ∙ here.0)) ∙ g.0, g.1, g.2);
        size = f.size;
        convener = f.convener;
      } in
      same_rounds suits s holds owners (set s.views id (others v) ++ first_of v ∷ []) (parted_fit rounds holds.owners owners s.views id (others v) (first_of v) left right theirs)

  -- a place that has reported may go to a new seat, while the seat keeps what else it may do
  pub resigns : (suits : T → ℕ → R → Type 0) (id : ℕ) (v : RoundView T R) → awaited v.stages ≡ 0 → Splits (Meets suits) id v (others v) (first_of v)
  resigns suits id v none_left s holds at =
      let rounds = holds.rounds in
      let fit = holds.fits id v at in
      let left : Fits rounds holds.owners id (others v) = record {
        known = others_known rounds holds.owners id v fit;
        owned = λ i x e is. absurd (none_open v.stages none_left (suc i) x (after_first v.stages i x e) is);
        size = λ any. fit.size (fewer_dropped v.stages any);
        convener = fit.convener;
      } in
      let right : Fits rounds holds.owners (length s.views) (first_of v) = record {
        known = first_known rounds holds.owners id v fit;
        owned = λ i x e is. absurd (none_open v.stages none_left 0 x (first_one_at v.stages i x e).1 is);
        size = λ any. fit.size (some_of_first v.stages any);
        convener = λ can. absurd (true≢false (sym can));
      } in
      same_rounds suits s holds holds.owners (set s.views id (others v) ++ first_of v ∷ []) (parted_fit rounds holds.owners holds.owners s.views id (others v) (first_of v) left right (λ j u apart e. holds.fits j u e))

  -- a seat whose places have reported may take in another that has the places after them
  pub joins : (suits : T → ℕ → R → Type 0) (id : ℕ) (v : RoundView T R) (other : ℕ) (w : RoundView T R) → 0 < length v.stages → awaited v.stages ≡ 0 → awaited w.stages ≡ 0 → w.round ≡ v.round → w.from ≡ v.from + length v.stages → Joins (Meets suits) id v other w (both v w) nowhere
  joins suits id v other w any mine_left theirs_left round after s holds at apart there =
      let rounds = holds.rounds in
      let was : get_elem? s.views other ≡ some w = sym (set_else s.views id other (both v w) apart) ∙ there in
      let mine = holds.fits id v at in
      let theirs = holds.fits other w was in
      let together : Fits rounds holds.owners id (both v w) = record {
        known = λ i x e. ⊎_elim
            (λ (h : get_elem? v.stages i ≡ some x). mine.known i x h)
            (λ (t : (k : ℕ) × (i ≡ length v.stages + k) × (get_elem? w.stages k ≡ some x)).
            let same : v.from + i ≡ w.from + t.0 = omega (arith, t.1) in
            ap (λ (n : ℕ). get_elem? (round_of rounds.past rounds.now v.round) n) same ∙ ap (λ (n : ℕ). get_elem? (round_of rounds.past rounds.now n) (w.from + t.0)) (sym round) ∙ theirs.known t.0 x t.2)
            (at_append v.stages w.stages i x e);
        owned = λ i x e is. absurd (⊎_elim
            (λ (h : get_elem? v.stages i ≡ some x). none_open v.stages mine_left i x h is)
            (λ (t : (k : ℕ) × (i ≡ length v.stages + k) × (get_elem? w.stages k ≡ some x)). none_open w.stages theirs_left t.0 x t.2 is)
            (at_append v.stages w.stages i x e));
        size = λ _. mine.size any;
        convener = mine.convener;
      } in
      let nothing : (j : ℕ) → Fits rounds holds.owners j nowhere = λ j. record {
        known = λ i x e. absurd (some-ne-none x (sym e));
        owned = λ i x e is. absurd (some-ne-none x (sym e));
        size = λ h. absurd (omega arith);
        convener = λ can. absurd (true≢false (sym can));
      } in
      same_rounds suits s holds holds.owners (set (set s.views id (both v w)) other nowhere) (λ j u e. ⊎_elim
      (λ (t : (j ≡ other) × (nowhere ≡ u)). subst (λ (y : RoundView T R). Fits rounds holds.owners j y) t.1 (nothing j))
      (λ (t : (j ≢ other) × (get_elem? (set s.views id (both v w)) j ≡ some u)). ⊎_elim
      (λ (h : (j ≡ id) × (both v w ≡ u)). subst (λ (p : ℕ × RoundView T R). Fits rounds holds.owners p.0 p.1) (λ k. (sym h.0 k, h.1 k)) together)
      (λ (h : (j ≢ id) × (get_elem? s.views j ≡ some u)). holds.fits j u h.1)
      (at_set s.views id j (both v w) u t.1))
      (at_set (set s.views id (both v w)) other j nowhere u e))

  -- who has all places of a round knows what holds of them
  pub looks : (suits : T → ℕ → R → Type 0) (slots id : ℕ) (me : Me (Option R) (RoundView T R)) → 0 < length me.0.stages → IsWhole me.0 → Allows (Meets suits) slots id me 0 (λ n. n) (λ n after. IsSettled me after)
  looks suits slots id me any whole s holds long at small =
      let v = me.0 in
      let rounds = holds.rounds in
      let fit = holds.fits id v at in
      let all = whole_is rounds holds.owners id v fit any whole in
      let some_there : 0 < length (round_of rounds.past rounds.now v.round) = omega (arith, ap length all) in (
        v,
        keeps,
        tt,
        record {
          rounds = holds.rounds;
          owners = holds.owners;
          spare = holds.spare;
          count = ap (λ (w : List ℕ). set w 0 (slice_index w 0)) holds.count;
          homes = holds.homes;
          finished = holds.finished;
          one_taker = holds.one_taker;
          no_taker = holds.no_taker;
          results = holds.results;
          suit = holds.suit;
          fits = subst (AllFit holds.rounds holds.owners) (sym (set_again s.views id v at)) holds.fits;
        },
        (
          refl,
          λ none_left. ⊎_elim
              (λ (over : get_elem? rounds.past v.round ≡ some (round_of rounds.past rounds.now v.round)). ap takers all ∙ (holds.finished v.round _ over).one_taker some_there)
              (λ (present : round_of rounds.past rounds.now v.round ≡ rounds.now). let is = all ∙ present in ap takers is ∙ holds.one_taker (sym (ap awaited is) ∙ none_left) (omega (arith, ap length is)))
              (past_or_now rounds.past rounds.now v.round some_there),
          λ number own results e. ⊎_elim
              (λ (over : get_elem? rounds.past v.round ≡ some (round_of rounds.past rounds.now v.round)). ap (map reported_at) all ∙ (holds.finished v.round _ over).results number own results (ap (λ (l : List (Stage R)). get_elem? l number) (sym all) ∙ e))
              (λ (present : round_of rounds.past rounds.now v.round ≡ rounds.now). let is = all ∙ present in ap (map reported_at) is ∙ holds.results number own results (ap (λ (l : List (Stage R)). get_elem? l number) (sym is) ∙ e))
              (past_or_now rounds.past rounds.now v.round some_there),
        ),
      )

  -- who may convene may convene a round
  module _ (suits : T → ℕ → R → Type 0) (id : ℕ) (me : Me (Option R) (RoundView T R)) (topic : Option T) (places : ℕ) (s : State (Option R) (RoundView T R)) (holds : Meets suits s) (at : get_elem? s.views id ≡ some me.0) (can : me.0.convenes ≡ true) (some_place : 1 ≤ places) where
    abbrev new : List (Stage R)
    new = replicate places waits

    abbrev chair : (holds.owners.next ≡ id) × (awaited holds.rounds.now ≡ 0) × (me.0.round ≡ length holds.rounds.past) × (length holds.rounds.now ≡ me.0.size)
    chair = (holds.fits id me.0 at).convener can

    abbrev rounds_after : Rounds T R
    rounds_after = record { past = holds.rounds.past ++ holds.rounds.now ∷ []; now = new; topic = topic }

    abbrev owners_after : Owners
    owners_after = record { places = λ _. id; next = id }

    abbrev view_after : RoundView T R
    view_after = having topic (suc me.0.round) places 0 new

    present : suc me.0.round ≡ length rounds_after.past
    present = omega (arith, chair.2, long_more holds.rounds.past holds.rounds.now)

    convened_mine : Fits rounds_after owners_after id view_after
    convened_mine = record {
      known = λ i x e. let same : 0 + i ≡ i = omega arith in
          ap (λ (n : ℕ). get_elem? (round_of rounds_after.past new (suc me.0.round)) n) same ∙ ap (λ (l : List (Stage R)). get_elem? l i) (round_now rounds_after.past new (suc me.0.round) present) ∙ e;
      owned = λ i x e is. (refl, present, refl);
      size = λ _. ap length (round_now rounds_after.past new (suc me.0.round) present) ∙ long_replicate places waits;
      convener = λ no. absurd (true≢false (sym no));
    }

    convened_theirs : (j : ℕ) (u : RoundView T R) → j ≢ id → Fits holds.rounds holds.owners j u → Fits rounds_after owners_after j u
    convened_theirs j u apart f = record {
      known = λ i x e. ap (λ (l : List (Stage R)). get_elem? l (u.from + i)) (round_kept holds.rounds.past holds.rounds.now new u.round (some_later _ (u.from + i) x (f.known i x e))) ∙ f.known i x e;
      owned = λ i x e is. absurd (none_open holds.rounds.now chair.1 (u.from + i) x (now_at holds.rounds holds.owners j u i x f e is) is);
      size = λ any. let first = some_first u.stages any in
          ap length (round_kept holds.rounds.past holds.rounds.now new u.round (some_later _ (u.from + 0) first.0 (f.known 0 first.0 first.1))) ∙ f.size any;
      convener = λ too. absurd (apart (sym (f.convener too).0 ∙ chair.0));
    }

    convened_fit : AllFit rounds_after owners_after (set s.views id view_after)
    convened_fit j u e = ⊎_elim
        (λ (t : (j ≡ id) × (view_after ≡ u)). subst (λ (p : ℕ × RoundView T R). Fits rounds_after owners_after p.0 p.1) (λ k. (sym t.0 k, t.1 k)) convened_mine)
        (λ (t : (j ≢ id) × (get_elem? s.views j ≡ some u)). convened_theirs j u t.0 (holds.fits j u t.1))
        (at_set s.views id j view_after u e)

    over_now : IsFinished holds.rounds.now
    over_now = record { none_left = chair.1; one_taker = holds.one_taker chair.1; results = holds.results }

    all_over : (n : ℕ) (stages : List (Stage R)) → get_elem? rounds_after.past n ≡ some stages → IsFinished stages
    all_over n stages e = ⊎_elim
        (λ (was : get_elem? holds.rounds.past n ≡ some stages). holds.finished n stages was)
        (λ (t : (n ≡ length holds.rounds.past) × (holds.rounds.now ≡ stages)). subst IsFinished t.1 over_now)
        (at_end holds.rounds.past holds.rounds.now stages n e)

    -- the slots that come home
    shut : s.homes ≡ replicate (length holds.rounds.now) none ++ homes_spare holds.spare
    shut = holds.homes ∙ ap (λ (l : List (found.Option (Option R))). l ++ homes_spare holds.spare) (homes_shut (awaited holds.rounds.now) holds.rounds.now chair.1 ∙ none_each holds.rounds.now)

    slots_are : length s.homes ≡ length holds.rounds.now + holds.spare
    slots_are = omega (arith, ap length shut, long_append (replicate {A = found.Option (Option R)} (length holds.rounds.now) none) (homes_spare holds.spare), long_replicate {A = found.Option (Option R)} (length holds.rounds.now) none, long_replicate {A = found.Option (Option R)} holds.spare (some None))

    come_home : me.1 ≡ empty_slots 0 me.0.size → homes_after s.homes me.1 (gives_all me.0.size) ≡ homes_spare (length holds.rounds.now + holds.spare)
    come_home hand =
        ap (λ (n : ℕ). homes_after s.homes me.1 (gives_all n)) (sym chair.3)
        ∙ ap (λ (c : List (ℕ × Option R)). homes_after s.homes c (gives_all (length holds.rounds.now))) (hand ∙ ap (λ (n : ℕ). empty_slots 0 n) (sym chair.3))
        ∙ ap (λ (l : List (found.Option (Option R))). homes_after l (empty_slots 0 (length holds.rounds.now)) (gives_all (length holds.rounds.now))) shut
        ∙ homes_given 0 (length holds.rounds.now) (homes_spare holds.spare) ∙ replicate_more (0 + length holds.rounds.now) holds.spare (some None)
        ∙ ap (λ (n : ℕ). homes_spare (n + holds.spare)) (omega arith)

    round_home : (slots : ℕ) → places ≤ slots → homes_spare slots ≡ homes_at (awaited new) new ++ homes_spare (slots - places)
    round_home slots room =
        let some_left : 0 < awaited new = omega (arith, awaited_first R places) in
        let all : places + (slots - places) ≡ slots = omega arith in
        ap homes_spare (sym all) ∙ sym (replicate_more places (slots - places) (some None)) ∙ ap (λ (l : List (found.Option (Option R))). l ++ homes_spare (slots - places)) (sym (homes_open (awaited new) new some_left ∙ home_each places))

  pub convenes : (suits : T → ℕ → R → Type 0) (slots id : ℕ) (me : Me (Option R) (RoundView T R)) (topic : Option T) (places : ℕ) → me.0.convenes ≡ true → me.1 ≡ empty_slots 0 me.0.size → 1 ≤ places → places ≤ slots → Allows (Meets suits) slots id me 0 (λ _. places) (λ n after. IsConvened topic places me after)
  convenes suits slots id me topic places can hand some_place room s holds long at small =
      let count = awaited_first R places in
      let none_took = takers_first R places in
      let view : RoundView T R = having topic (suc me.0.round) places 0 (replicate places waits) in (
        view,
        gives_all me.0.size,
        given_valid me.0.size s.homes me.1,
        record {
          rounds = rounds_after suits id me topic places s holds at can some_place;
          owners = owners_after suits id me topic places s holds at can some_place;
          spare = slots - places;
          count = ap (λ (w : List ℕ). set w 0 places) holds.count ∙ ap (λ (k : ℕ). k ∷ []) (sym count);
          homes = come_home suits id me topic places s holds at can some_place hand ∙ ap homes_spare (sym (slots_are suits id me topic places s holds at can some_place) ∙ long) ∙ round_home suits id me topic places s holds at can some_place slots room;
          finished = all_over suits id me topic places s holds at can some_place;
          one_taker = λ z any. absurd (omega arith);
          no_taker = λ _. none_took;
          results = no_results (replicate places waits) (replicate places waits) none_took;
          suit = λ about is number x e. subst (SuitsAt (suits about) number) (sym (no_one_took R places number x e)) tt;
          fits = convened_fit suits id me topic places s holds at can some_place;
        },
        ap (λ (c : List (ℕ × Option R)). (view, c)) (ap (λ (c : List (ℕ × Option R)). carried_after c (gives_all me.0.size)) hand ∙ none_carried 0 me.0.size),
      )
