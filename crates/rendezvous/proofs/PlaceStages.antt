-- How many places of a list have not reported, and how many took all results.
use Rattle.std.proofs.Common.{◌≡◌, ℕ, zero, suc, ◌+◌, ◌<◌, ◌≤◌, List, [], ◌∷◌, map, length, set, replicate, Option, Some, None, slice_get, refl, sym, ap, arith}
use mathlib.Core.Option.{some, none, some-ne-none, some-injective}
use lib.ListN.{get_elem?}
use Rattle.rendezvous.specs.Stages.{Stage, waits, sits, gave, took}
use Rattle.rendezvous.specs.Rule.{reported_at, awaited, takers, home, homes_at}

module _ {A : Type 0} where
  -- what was written at an index that there is
  pub set_there : (l : List A) (i : ℕ) (x a : A) → get_elem? l i ≡ some x → get_elem? (set l i a) i ≡ some a
  set_there [] i x a e = absurd (some-ne-none x (sym e))
  set_there (y ∷ l) zero x a e = refl
  set_there (y ∷ l) (suc i) x a e = set_there l i x a e

  pub there_within : (l : List A) (i : ℕ) (x : A) → get_elem? l i ≡ some x → i < length l
  there_within [] i x e = absurd (some-ne-none x (sym e))
  there_within (y ∷ l) zero x e = omega arith
  there_within (y ∷ l) (suc i) x e = omega (arith, there_within l i x e)

  -- two lists as long as one another, where one has all that the other has
  pub same_lists : (xs ys : List A) → length xs ≡ length ys → ((i : ℕ) (x : A) → get_elem? xs i ≡ some x → get_elem? ys i ≡ some x) → xs ≡ ys
  same_lists [] [] long same = refl
  same_lists [] (y ∷ ys) long same = absurd (omega arith)
  same_lists (x ∷ xs) [] long same = absurd (omega arith)
  same_lists (x ∷ xs) (y ∷ ys) long same =
      let first = some-injective y x (same 0 x refl) in
      let rest = same_lists xs ys (omega arith) (λ i z e. same (suc i) z e) in
      λ k. sym first k ∷ rest k

module _ {R : Type 0} where
  abbrev pub weighs : Stage R → ℕ
  weighs x = awaited (x ∷ [])

  abbrev pub takes_all : Stage R → ℕ
  takes_all x = takers (x ∷ [])

  awaited_cons : (x : Stage R) (xs : List (Stage R)) → awaited (x ∷ xs) ≡ weighs x + awaited xs
  awaited_cons waits xs = omega arith
  awaited_cons sits xs = omega arith
  awaited_cons (gave own) xs = omega arith
  awaited_cons (took own results) xs = omega arith

  takers_cons : (x : Stage R) (xs : List (Stage R)) → takers (x ∷ xs) ≡ takes_all x + takers xs
  takers_cons waits xs = omega arith
  takers_cons sits xs = omega arith
  takers_cons (gave own) xs = omega arith
  takers_cons (took own results) xs = omega arith

  pub awaited_set : (xs : List (Stage R)) (i : ℕ) (x y : Stage R) → get_elem? xs i ≡ some x → awaited (set xs i y) + weighs x ≡ awaited xs + weighs y
  awaited_set [] i x y e = absurd (some-ne-none x (sym e))
  awaited_set (z ∷ xs) zero x y e =
      let same = ap weighs (some-injective z x e) in
      omega (arith, awaited_cons y xs, awaited_cons z xs)
  awaited_set (z ∷ xs) (suc i) x y e =
      let rest = awaited_set xs i x y e in
      omega (arith, awaited_cons z xs, awaited_cons z (set xs i y))

  pub takers_set : (xs : List (Stage R)) (i : ℕ) (x y : Stage R) → get_elem? xs i ≡ some x → takers (set xs i y) + takes_all x ≡ takers xs + takes_all y
  takers_set [] i x y e = absurd (some-ne-none x (sym e))
  takers_set (z ∷ xs) zero x y e =
      let same = ap takes_all (some-injective z x e) in
      omega (arith, takers_cons y xs, takers_cons z xs)
  takers_set (z ∷ xs) (suc i) x y e =
      let rest = takers_set xs i x y e in
      omega (arith, takers_cons z xs, takers_cons z (set xs i y))

  pub awaited_there : (xs : List (Stage R)) (i : ℕ) (x : Stage R) → get_elem? xs i ≡ some x → weighs x ≤ awaited xs
  awaited_there [] i x e = absurd (some-ne-none x (sym e))
  awaited_there (z ∷ xs) zero x e = let same = ap weighs (some-injective z x e) in omega (arith, awaited_cons z xs)
  awaited_there (z ∷ xs) (suc i) x e = omega (arith, awaited_cons z xs, awaited_there xs i x e)

  pub taker_there : (xs : List (Stage R)) (i : ℕ) (x : Stage R) → get_elem? xs i ≡ some x → takes_all x ≤ takers xs
  taker_there [] i x e = absurd (some-ne-none x (sym e))
  taker_there (z ∷ xs) zero x e = let same = ap takes_all (some-injective z x e) in omega (arith, takers_cons z xs)
  taker_there (z ∷ xs) (suc i) x e = omega (arith, takers_cons z xs, taker_there xs i x e)

  -- where no one is awaited, all have reported
  pub all_reported_at : (xs : List (Stage R)) → awaited xs ≡ 0 → (results : List R) × (map reported_at xs ≡ map Some results)
  all_reported_at [] none_left = ([], refl)
  all_reported_at (waits ∷ xs) none_left = absurd (omega arith)
  all_reported_at (sits ∷ xs) none_left = absurd (omega arith)
  all_reported_at (gave own ∷ xs) none_left = let rest = all_reported_at xs none_left in (own ∷ rest.0, ap (λ l. Some own ∷ l) rest.1)
  all_reported_at (took own results ∷ xs) none_left = let rest = all_reported_at xs none_left in (own ∷ rest.0, ap (λ l. Some own ∷ l) rest.1)

  -- while one is awaited, what is at home is at home by place
  pub homes_open : (n : ℕ) (xs : List (Stage R)) → 0 < n → homes_at n xs ≡ map home xs
  homes_open zero xs some_left = absurd (omega arith)
  homes_open (suc n) xs some_left = refl

  pub homes_shut : (n : ℕ) (xs : List (Stage R)) → n ≡ 0 → homes_at n xs ≡ map (λ _. none) xs
  homes_shut zero xs none_left = refl
  homes_shut (suc n) xs none_left = absurd (omega arith)

  pub length_homes : (n : ℕ) (xs : List (Stage R)) → length (homes_at n xs) ≡ length xs
  length_homes zero [] = refl
  length_homes zero (x ∷ xs) = ap suc (length_homes zero xs)
  length_homes (suc n) [] = refl
  length_homes (suc n) (x ∷ xs) = ap suc (length_homes (suc n) xs)

  abbrev value_or : R → Option R → R
  value_or d None = d
  value_or d (Some r) = r

  pub same_some : (a b : R) → Some a ≡ Some b → a ≡ b
  same_some a b e = ap (value_or a) e

  -- where all have reported and no one took the results, all results are at home
  pub homes_full : (xs : List (Stage R)) (results : List R) → takers xs ≡ 0 → map reported_at xs ≡ map Some results → map home xs ≡ map some (map Some results)
  homes_full [] [] no_taker all = refl
  homes_full [] (r ∷ results) no_taker all = absurd (cc)
  homes_full (waits ∷ xs) [] no_taker all = absurd (cc)
  homes_full (waits ∷ xs) (r ∷ results) no_taker all = absurd (cc)
  homes_full (sits ∷ xs) [] no_taker all = absurd (cc)
  homes_full (sits ∷ xs) (r ∷ results) no_taker all = absurd (cc)
  homes_full (gave own ∷ xs) [] no_taker all = absurd (cc)
  homes_full (gave own ∷ xs) (r ∷ results) no_taker all =
      let first : Some own ≡ Some r = cc in
      let rest = homes_full xs results no_taker cc in
      λ k. some (first k) ∷ rest k
  homes_full (took own taken ∷ xs) results no_taker all = absurd (omega arith)

  -- a result in the list of all
  pub result_there : (results : List R) (i : ℕ) (r : R) → get_elem? (map Some results) i ≡ some (Some r) → slice_get results i ≡ Some r
  result_there [] i r e = absurd (some-ne-none (Some r) (sym e))
  result_there (x ∷ results) zero r e = some-injective (Some x) (Some r) e
  result_there (x ∷ results) (suc i) r e = result_there results i r e

-- at first all are awaited, and each slot lies at home without a result
pub awaited_first : (R : Type 0) (n : ℕ) → awaited {R = R} (replicate n waits) ≡ n
awaited_first R zero = refl
awaited_first R (suc n) = ap suc (awaited_first R n)

pub takers_first : (R : Type 0) (n : ℕ) → takers {R = R} (replicate n waits) ≡ 0
takers_first R zero = refl
takers_first R (suc n) = takers_first R n

pub homes_first : (R : Type 0) (n : ℕ) → map some (replicate n None) ≡ map (home {R = R}) (replicate n waits)
homes_first R zero = refl
homes_first R (suc n) = ap (λ l. some None ∷ l) (homes_first R n)

pub no_one_took : (R : Type 0) (n i : ℕ) (x : Stage R) → get_elem? (replicate n waits) i ≡ some x → x ≡ waits
no_one_took R zero i x e = absurd (some-ne-none x (sym e))
no_one_took R (suc n) zero x e = sym (some-injective waits x e)
no_one_took R (suc n) (suc i) x e = no_one_took R n i x e
