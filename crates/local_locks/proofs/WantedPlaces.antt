-- Places that are wanted, and a place that is left out.
use Rattle.std.proofs.Common.{◌≡◌, ◌≢◌, ℕ, zero, suc, ◌+◌, ◌<◌, ◌≤◌, Bool, true, false, eqb, leb, ltb, List, [], ◌∷◌, ◌++◌, ◌||◌, ◌&&◌, not, length, get_or, take, refl, sym, ap, ◌∙◌, ⊎_elim, cond, arith, append_assoc}
use Rattle.std.specs.Prelude.{All, filter, if◌then◌else◌}
use Rattle.std.specs.List.{AllByRecursion, IsDistinct, list_any, range_with_len}
use Rattle.std.specs.Set.{remove_key}
use Rattle.std.proofs.lemmas.Bool.{eqb-true, eq-eqb, false_from_ne_true, or_parts, true_from_ne_false}
use Rattle.std.proofs.lemmas.Bool.Decides.{eqb_tells}
use Rattle.std.proofs.lemmas.List.{append-nil, map-id, take_more}
use Rattle.std.proofs.lemmas.List.Elements.{All-filter, filter-append, filter_agree}
use Rattle.std.proofs.lemmas.List.Folds.{list_any-append, list_any_none}
use Rattle.std.proofs.lemmas.List.FromFn.{get_or-range_with_len, length-range_with_len, map-range_with_len_more}
use Rattle.std.proofs.lemmas.Map.Keys.{IsDistinct-head, IsDistinct-tail}
use Rattle.indexmap.specs.IndexSet.{insert_key}
use Rattle.groups.specs.declared.group_wants.Mode.{Mode}
use Rattle.groups.specs.declared.wants.Want.{Want}
use Rattle.local_locks.specs.EntryPlaces.{is_among, covers_at, is_at, is_fresh, is_wanted_at, kept_if, without}
use Rattle.local_locks.specs.Rulings.{count_in, first_place, spots}
use Rattle.local_locks.proofs.Spots.{no_want}
use Rattle.local_locks.proofs.Tested.{filter_agrees, filter_all, filter_both, same_test}

-- ---- one place is left out

kept_others : (place k : ℕ) (ks : List ℕ) → place ≡ k → AllByRecursion (λ y. eqb k y ≡ false) ks → without place ks ≡ ks
kept_others place k [] same apart = refl
kept_others place k (y ∷ ys) same apart =
    let rest = kept_others place k ys same apart.1 in
    let here : eqb place y ≡ false = ap (λ n. eqb n y) same ∙ apart.0 in
    λ i. cond (not (here i)) (y ∷ rest i) (rest i)

-- where no place is there twice, the first is all that goes
pub removed : (place : ℕ) (ks : List ℕ) → IsDistinct eqb ks → remove_key (eqb place) ks ≡ without place ks
removed place [] distinct = refl
removed place (k ∷ ks) distinct = by (eqb place k) refl (removed place ks (IsDistinct-tail eqb k ks distinct))
  where
    by : (b : Bool) → eqb place k ≡ b → remove_key (eqb place) ks ≡ without place ks → cond (eqb place k) ks (k ∷ remove_key (eqb place) ks) ≡ cond (not (eqb place k)) (k ∷ without place ks) (without place ks)
    by true is rest =
        (λ i. cond (is i) ks (k ∷ remove_key (eqb place) ks)) ∙ sym (kept_others place k ks (eqb-true place k is) (IsDistinct-head eqb k ks distinct))
        ∙ sym (λ i. cond (not (is i)) (k ∷ without place ks) (without place ks))
    by false isnt rest =
        (λ i. cond (isnt i) ks (k ∷ remove_key (eqb place) ks)) ∙ ap (λ rs. k ∷ rs) rest ∙ sym (λ i. cond (not (isnt i)) (k ∷ without place ks) (without place ks))

-- ---- the wanted places are inserted

pub range_more : (n : ℕ) → range_with_len 0 (n + 1) ≡ range_with_len 0 n ++ n ∷ []
range_more n =
    sym (map-id (range_with_len 0 (n + 1))) ∙ map-range_with_len_more (λ (k : ℕ). k) 0 n n (omega arith) ∙ ap (λ ks. ks ++ n ∷ []) (map-id (range_with_len 0 n))

pub range_below : (n : ℕ) → All (λ k. k < n) (range_with_len 0 n)
range_below n = λ i d small.
    let inside : i < n = omega (arith, small, length-range_with_len 0 n) in
    omega (arith, inside, get_or-range_with_len 0 n i d inside)

module _ (wants : List Want) (old : List ℕ) where
  abbrev pub so_far : ℕ → List ℕ
  so_far place = filter (is_fresh wants old) (range_with_len 0 place)

  more : (place : ℕ) → so_far (place + 1) ≡ so_far place ++ cond (is_fresh wants old place) (place ∷ []) []
  more place = ap (filter (is_fresh wants old)) (range_more place) ∙ filter-append (is_fresh wants old) (range_with_len 0 place) (place ∷ [])

  none_yet : (place : ℕ) → list_any (eqb place) (so_far place) ≡ false
  none_yet place =
      list_any_none (eqb place) (so_far place)
      (All-filter (is_fresh wants old) (λ k. eqb place k ≡ false) (range_with_len 0 place)
      (λ i d small. false_from_ne_true _ (λ same. omega (arith, range_below place i d small, eqb-true place (get_or (range_with_len 0 place) i d) same))))

  among : (place : ℕ) → list_any (eqb place) (old ++ so_far place) ≡ is_among old place
  among place = list_any-append (eqb place) old (so_far place) ∙ ap (λ b. is_among old place || b) (none_yet place) ∙ or_false (is_among old place)
    where
      or_false : (b : Bool) → (b || false) ≡ b
      or_false true = refl
      or_false false = refl

  pub inserted : (place : ℕ) → is_wanted_at wants place ≡ true → insert_key eqb (old ++ so_far place) place ≡ old ++ so_far (place + 1)
  inserted place wanted =
      (λ i. if among place i then old ++ so_far place else (old ++ so_far place) ++ place ∷ [])
      ∙ by (is_among old place) refl ∙ sym (ap (λ ks. old ++ ks) (more place ∙ ap (λ (b : Bool). so_far place ++ cond (b && not (is_among old place)) (place ∷ []) []) wanted))
    where
      by : (b : Bool) → is_among old place ≡ b → (if is_among old place then old ++ so_far place else (old ++ so_far place) ++ place ∷ []) ≡ old ++ (so_far place ++ cond (true && not (is_among old place)) (place ∷ []) [])
      by true is =
          (λ i. if is i then old ++ so_far place else (old ++ so_far place) ++ place ∷ []) ∙ sym (ap (λ ks. old ++ ks) (append-nil (so_far place)))
          ∙ sym (λ i. old ++ (so_far place ++ cond (true && not (is i)) (place ∷ []) []))
      by false isnt =
          (λ i. if isnt i then old ++ so_far place else (old ++ so_far place) ++ place ∷ []) ∙ append_assoc old (so_far place) (place ∷ [])
          ∙ sym (λ i. old ++ (so_far place ++ cond (true && not (isnt i)) (place ∷ []) []))

  pub skipped : (place : ℕ) → is_wanted_at wants place ≡ false → old ++ so_far place ≡ old ++ so_far (place + 1)
  skipped place unwanted =
      sym (ap (λ ks. old ++ ks) (more place ∙ ap (λ (b : Bool). so_far place ++ cond (b && not (is_among old place)) (place ∷ []) []) unwanted ∙ append-nil (so_far place)))

  -- none is wanted before this place
  pub none_before : (place : ℕ) → ((k : ℕ) → k < place → is_wanted_at wants k ≡ false) → old ≡ old ++ so_far place
  none_before zero unwanted = sym (append-nil old)
  none_before (suc place) unwanted =
      none_before place (λ k small. unwanted k (omega (arith, small))) ∙ skipped place (unwanted place (omega arith)) ∙ ap (λ (n : ℕ). old ++ so_far n) (let e : place + 1 ≡ suc place = omega arith in e)

  -- none is wanted after so many
  pub none_after : (end more : ℕ) → ((k : ℕ) → end ≤ k → is_wanted_at wants k ≡ false) → old ++ so_far end ≡ old ++ so_far (end + more)
  none_after end zero unwanted = ap (λ (n : ℕ). old ++ so_far n) (let e : end ≡ end + 0 = omega arith in e)
  none_after end (suc more) unwanted =
      none_after end more unwanted ∙ skipped (end + more) (unwanted (end + more) (omega arith)) ∙ ap (λ (n : ℕ). old ++ so_far n) (let e : (end + more) + 1 ≡ end + suc more = omega arith in e)

-- ---- the places of a want

unlike : false ≡ true → ⊥
unlike e = cc

pub at_spots : (place first count : ℕ) (mode : Mode) → first ≤ place → place < first + count → list_any (is_at place) (spots first count mode) ≡ true
unfolding spots
at_spots place first zero mode from below = absurd (omega (arith, from, below))
at_spots place first (suc count) mode from below =
    by (eqb first place) refl (λ apart. at_spots place (suc first) count mode (omega (arith, from, apart)) (omega (arith, below)))
  where
    by : (b : Bool) → eqb first place ≡ b → (first ≢ place → list_any (is_at place) (spots (suc first) count mode) ≡ true) → (eqb first place || list_any (is_at place) (spots (suc first) count mode)) ≡ true
    by true is rest = ap (λ b. b || list_any (is_at place) (spots (suc first) count mode)) is
    by false isnt rest = ap (λ b. b || list_any (is_at place) (spots (suc first) count mode)) isnt ∙ rest (λ same. unlike (sym isnt ∙ eq-eqb first place same))

pub not_at_spots : (place first count : ℕ) (mode : Mode) → (first ≤ place → place < first + count → ⊥) → list_any (is_at place) (spots first count mode) ≡ false
unfolding spots
not_at_spots place first zero mode out = refl
not_at_spots place first (suc count) mode out =
    let here : eqb first place ≡ false = false_from_ne_true (eqb first place) (λ same. let e = eqb-true first place same in out (omega (arith, e)) (omega (arith, e))) in
    let rest = not_at_spots place (suc first) count mode (λ from below. out (omega (arith, from)) (omega (arith, below))) in
    λ i. here i || rest i

below_test : (m n : ℕ) → m < n → ltb m n ≡ true
below_test m n less = grind arith

is_below : (m n : ℕ) → ltb m n ≡ true → m < n
is_below m n test = grind arith

is_from : (m n : ℕ) → leb m n ≡ true → m ≤ n
is_from m n test = grind arith

-- as a test of two bounds has it
pub spots_from : (place from end first count : ℕ) (mode : Mode) → from ≡ first → end ≡ first + count → from ≤ place → ltb place end ≡ list_any (is_at place) (spots first count mode)
spots_from place from end first count mode first_is end_is after =
    same_test (ltb place end) (list_any (is_at place) (spots first count mode))
    (λ below. at_spots place first count mode (omega (arith, after, first_is)) (omega (arith, is_below place end below, end_is)))
    (λ some. true_from_ne_false (ltb place end) (λ out. unlike (sym (not_at_spots place first count mode (λ _ below. unlike (sym out ∙ below_test place end (omega (arith, below, end_is))))) ∙ some)))

pub spots_after : (place from first count : ℕ) (mode : Mode) → from ≡ first → place < from → leb from place ≡ list_any (is_at place) (spots first count mode)
spots_after place from first count mode first_is before =
    false_from_ne_true (leb from place) (λ test. omega (arith, is_from from place test, before)) ∙ sym (not_at_spots place first count mode (λ after _. omega (arith, after, before, first_is)))

-- one want more, none of whose places this is
pub one_more : (wants : List Want) (i place from to : ℕ) → i < length wants → from ≡ first_place (get_or wants i no_want).extent → to ≡ first_place (get_or wants i no_want).extent + count_in (get_or wants i no_want).extent
    → is_wanted_at (take i wants) place ≡ false → (from ≤ place → place < to → ⊥) → is_wanted_at (take (i + 1) wants) place ≡ false
one_more wants i place from to there first_is end_is so_far out =
    ap (λ (ws : List Want). is_wanted_at ws place) (take_more wants i no_want there) ∙ list_any-append (covers_at place) (take i wants) (want ∷ []) ∙ (λ j. so_far j || (here j || false))
  where
    want : Want
    want = get_or wants i no_want

    here : covers_at place want ≡ false
    here = not_at_spots place (first_place want.extent) (count_in want.extent) want.mode (λ after below. out (omega (arith, after, first_is)) (omega (arith, below, end_is)))

-- the places of one want more
pub want_more : (wants : List Want) (i place from to : ℕ) → i < length wants → from ≡ first_place (get_or wants i no_want).extent → to ≡ first_place (get_or wants i no_want).extent + count_in (get_or wants i no_want).extent
    → (is_wanted_at (take i wants) place || (leb from place && ltb place to)) ≡ is_wanted_at (take (i + 1) wants) place
want_more wants i place from to there first_is end_is =
    ap (λ b. is_wanted_at (take i wants) place || b) (covered (leb from place) refl)
    ∙ sym (ap (λ (ws : List Want). is_wanted_at ws place) (take_more wants i no_want there) ∙ list_any-append (covers_at place) (take i wants) (want ∷ []))
  where
    want : Want
    want = get_or wants i no_want

    or_false : (b : Bool) → b ≡ (b || false)
    or_false true = refl
    or_false false = refl

    covered : (b : Bool) → leb from place ≡ b → (leb from place && ltb place to) ≡ (covers_at place want || false)
    covered true is =
        ap (λ b. b && ltb place to) is ∙ spots_from place from to (first_place want.extent) (count_in want.extent) want.mode first_is end_is (is_from from place is) ∙ or_false (covers_at place want)
    covered false isnt =
        ap (λ b. b && ltb place to) isnt ∙ sym isnt ∙ spots_after place from (first_place want.extent) (count_in want.extent) want.mode first_is (is_below place from (grind arith)) ∙ or_false (covers_at place want)

-- ---- the places are looked at in turn

same_side : (place p : ℕ) → p ≢ place → ltb p place ≡ ltb p (place + 1)
same_side place p apart = grind arith

module _ (used : ℕ → Bool) where
  -- those before this one that are used, and all from it on
  abbrev pub stays : ℕ → ℕ → Bool
  stays place p = used p || not (ltb p place)

  pub none_looked : (ps : List ℕ) → ps ≡ filter (stays 0) ps
  none_looked ps = sym (filter_all (stays 0) ps (λ k d small. or_true (used (get_or ps k d)) (get_or ps k d)))
    where
      or_true : (b : Bool) (p : ℕ) → (b || not (ltb p 0)) ≡ true
      or_true true p = refl
      or_true false p = grind arith

  -- one more place is used
  used_looked : (place : ℕ) (ps : List ℕ) → used place ≡ true → filter (stays place) ps ≡ filter (stays (place + 1)) ps
  used_looked place ps is = filter_agree (stays place) (stays (place + 1)) each ps
    where
      each : (p : ℕ) → stays place p ≡ stays (place + 1) p
      each p =
          ⊎_elim
          (λ (same : (eqb p place ≡ true) × (p ≡ place)).
          let here : used p ≡ true = ap used same.1 ∙ is in
          ap (λ b. b || not (ltb p place)) here ∙ sym (ap (λ b. b || not (ltb p (place + 1))) here))
          (λ (other : (eqb p place ≡ false) × (p ≢ place)). ap (λ b. used p || not b) (same_side place p other.1))
          (eqb_tells p place)

  -- one more place is not, and is left out
  unused_looked : (place : ℕ) (ps : List ℕ) → used place ≡ false → without place (filter (stays place) ps) ≡ filter (stays (place + 1)) ps
  unused_looked place ps isnt = filter_both (stays place) (λ p. not (eqb place p)) ps ∙ filter_agree (λ p. stays place p && not (eqb place p)) (stays (place + 1)) each ps
    where
      gone : (p : ℕ) → place ≡ p → (true && not (eqb place p)) ≡ (false || not (ltb p (place + 1)))
      gone p same = grind arith

      and_true : (b : Bool) → (b && not false) ≡ b
      and_true true = refl
      and_true false = refl

      from_here : (p : ℕ) → place ≡ p → not (ltb p place) ≡ true
      from_here p same = grind arith

      each : (p : ℕ) → (stays place p && not (eqb place p)) ≡ stays (place + 1) p
      each p =
          ⊎_elim
          (λ (same : (eqb place p ≡ true) × (place ≡ p)).
          let here : used p ≡ false = sym (ap used same.1) ∙ isnt in
          (λ i. (here i || from_here p same.1 i) && not (eqb place p)) ∙ gone p same.1 ∙ sym (ap (λ b. b || not (ltb p (place + 1))) here))
          (λ (other : (eqb place p ≡ false) × (place ≢ p)).
          (λ i. stays place p && not (other.0 i)) ∙ and_true (stays place p) ∙ ap (λ b. used p || not b) (same_side place p (λ same. other.1 (sym same))))
          (eqb_tells place p)

  pub looked : (place : ℕ) (ps : List ℕ) → kept_if (used place) place (filter (stays place) ps) ≡ filter (stays (place + 1)) ps
  looked place ps = by (used place) refl
    where
      by : (b : Bool) → used place ≡ b → kept_if (used place) place (filter (stays place) ps) ≡ filter (stays (place + 1)) ps
      by true is = ap (λ b. kept_if b place (filter (stays place) ps)) is ∙ used_looked place ps is
      by false isnt = ap (λ b. kept_if b place (filter (stays place) ps)) isnt ∙ unused_looked place ps isnt

  stays_in : (place p : ℕ) → p ≢ place → stays place p ≡ stays (place + 1) p
  stays_in place p apart = ap (λ b. used p || not b) (same_side place p apart)

  -- one more place has no entry
  pub absent_looked : (place : ℕ) (ps : List ℕ) → is_among (filter (stays place) ps) place ≡ false → filter (stays place) ps ≡ filter (stays (place + 1)) ps
  absent_looked place [] absent = refl
  absent_looked place (p ∷ ps) absent = by (stays place p) refl (absent_looked place ps)
    where
      from_here : p ≡ place → not (ltb p place) ≡ true
      from_here same = grind arith

      by : (b : Bool) → stays place p ≡ b → (is_among (filter (stays place) ps) place ≡ false → filter (stays place) ps ≡ filter (stays (place + 1)) ps)
          → cond (stays place p) (p ∷ filter (stays place) ps) (filter (stays place) ps) ≡ cond (stays (place + 1) p) (p ∷ filter (stays (place + 1)) ps) (filter (stays (place + 1)) ps)
      by true is rest =
          let parts = or_parts (eqb place p) (is_among (filter (stays place) ps) place) (sym (ap (λ b. is_among (cond b (p ∷ filter (stays place) ps) (filter (stays place) ps)) place) is) ∙ absent) in
          let apart : p ≢ place = λ same. unlike (sym parts.0 ∙ eq-eqb place p (sym same)) in
          λ i. cond (stays_in place p apart i) (p ∷ rest parts.1 i) (rest parts.1 i)
      by false isnt rest =
          let later : is_among (filter (stays place) ps) place ≡ false = sym (ap (λ b. is_among (cond b (p ∷ filter (stays place) ps) (filter (stays place) ps)) place) isnt) ∙ absent in
          let apart : p ≢ place = λ same. unlike (sym (or_parts (used p) (not (ltb p place)) isnt).1 ∙ from_here same) in
          λ i. cond (stays_in place p apart i) (p ∷ rest later i) (rest later i)

  pub all_looked : (ps : List ℕ) → All (λ p. p < 105) ps → filter (stays 105) ps ≡ filter used ps
  all_looked ps small = filter_agrees (λ p. p < 105) (stays 105) used (λ p below. ap (λ b. used p || b) (before p below) ∙ or_false (used p)) ps small
    where
      before : (p : ℕ) → p < 105 → not (ltb p 105) ≡ false
      before p below = grind arith

      or_false : (b : Bool) → (b || false) ≡ b
      or_false true = refl
      or_false false = refl
