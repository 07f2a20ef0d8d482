-- The numbers of those that are awaited, and what has been reported.
use Rattle.std.proofs.Common.{◌≡◌, ◌↔◌, ◌<◌, ◌≤◌, ◌+◌, ℕ, zero, suc, List, [], ◌∷◌, Option, Some, None, IsSome, length, map, replicate, refl, ap, subst, arith, slice_get, slice_set, ⊎_elim}
use Rattle.std.specs.List.{Contains, range_with_len}
use Rattle.std.specs.List.Sorted.{IsPermutation}
use Rattle.std.proofs.lemmas.List.Elements.{Contains-append_right, Contains-append_cases}
use Rattle.std.proofs.lemmas.List.Sorted.{IsPermutation-refl, IsPermutation-cons, IsPermutation-middle, IsPermutation-trans}
use Rattle.rendezvous.specs.Awaited.{awaited_from, reported}

-- Where a place reports that had not, its number is awaited no more, and every other one as before.
pub report_takes_one_number : {R : Type 0} (n place : ℕ) (xs : List (Option R)) (r : R) → slice_get xs place ≡ Some None
    → IsPermutation (awaited_from n xs) ((n + place) ∷ awaited_from n (slice_set xs place (Some r)))
report_takes_one_number n place [] r is = absurd (cc)
report_takes_one_number n zero (Some own ∷ xs) r is = absurd (cc)
report_takes_one_number n zero (None ∷ xs) r is =
    let same : n + 0 ≡ n = omega arith in
    rw same (IsPermutation-refl (n ∷ awaited_from (n + 1) xs))
report_takes_one_number n (suc place) (Some own ∷ xs) r is =
    let same : n + suc place ≡ (n + 1) + place = omega arith in
    rw same (report_takes_one_number (n + 1) place xs r is)
report_takes_one_number n (suc place) (None ∷ xs) r is =
    let same : n + suc place ≡ (n + 1) + place = omega arith in
    let rest = awaited_from (n + 1) (slice_set xs place (Some r)) in
    rw same (
    IsPermutation-trans (n ∷ awaited_from (n + 1) xs) (n ∷ ((n + 1) + place) ∷ rest) (((n + 1) + place) ∷ n ∷ rest) (
    IsPermutation-cons n (awaited_from (n + 1) xs) (((n + 1) + place) ∷ rest) (report_takes_one_number (n + 1) place xs r is)
    ) (IsPermutation-middle (n ∷ []) ((n + 1) + place) rest)
    )

-- where none is awaited, all have reported
pub all_reported : {R : Type 0} (n : ℕ) (xs : List (Option R)) → awaited_from n xs ≡ [] → map Some (reported xs) ≡ xs
all_reported n [] none = refl
all_reported n (None ∷ xs) none = absurd (cc)
all_reported n (Some r ∷ xs) none = ap (λ rest. Some r ∷ rest) (all_reported (n + 1) xs none)

pub none_awaited : {R : Type 0} (n : ℕ) (results : List R) → awaited_from n (map Some results) ≡ []
none_awaited n [] = refl
none_awaited n (r ∷ results) = none_awaited (n + 1) results

pub awaited_at_most : {R : Type 0} (n : ℕ) (xs : List (Option R)) → length (awaited_from n xs) ≤ length xs
awaited_at_most n [] = omega arith
awaited_at_most n (None ∷ xs) = omega (arith, awaited_at_most (n + 1) xs)
awaited_at_most n (Some r ∷ xs) = omega (arith, awaited_at_most (n + 1) xs)

pub all_awaited : (R : Type 0) (n count : ℕ) → awaited_from {R = R} n (replicate count None) ≡ range_with_len n count
all_awaited R n zero = refl
all_awaited R n (suc count) = ap (λ rest. n ∷ rest) (all_awaited R (n + 1) count)

-- who has not reported is awaited
pub awaited_at : {R : Type 0} (n number place : ℕ) (xs : List (Option R)) → number ≡ n + place → slice_get xs place ≡ Some None → Contains (awaited_from n xs) number
awaited_at n number place [] is waits = absurd (cc)
awaited_at n number zero (Some r ∷ xs) is waits = absurd (cc)
awaited_at n number zero (None ∷ xs) is waits = (0, omega arith, omega arith)
awaited_at n number (suc place) (None ∷ xs) is waits = Contains-append_right (n ∷ []) (awaited_from (n + 1) xs) number (awaited_at (n + 1) number place xs (omega arith) waits)
awaited_at n number (suc place) (Some r ∷ xs) is waits = awaited_at (n + 1) number place xs (omega arith) waits

-- and no one else
pub place_awaited : {R : Type 0} (n number : ℕ) (xs : List (Option R)) → Contains (awaited_from n xs) number → (place : ℕ) × (number ≡ n + place) × (slice_get xs place ≡ Some None)
place_awaited n number [] at = absurd (omega (arith, at.1))
place_awaited n number (None ∷ xs) at =
    ⊎_elim first (λ there. later (place_awaited (n + 1) number xs there)) (Contains-append_cases (n ∷ []) (awaited_from (n + 1) xs) number at)
  where
    first : Contains (n ∷ []) number → (place : ℕ) × (number ≡ n + place) × (slice_get (None ∷ xs) place ≡ Some None)
    first here = (0, grind (arith, here), refl)

    later : (place : ℕ) × (number ≡ (n + 1) + place) × (slice_get xs place ≡ Some None) → (place : ℕ) × (number ≡ n + place) × (slice_get (None ∷ xs) place ≡ Some None)
    later found = (suc found.0, omega (arith, found.1), found.2)
place_awaited n number (Some r ∷ xs) at = let found = place_awaited (n + 1) number xs at in (suc found.0, omega (arith, found.1), found.2)

-- If no result is returned of those that were left, none was left.
pub none_left : {X : Type 0} (results : List X) (recorded : Option X) → recorded ≡ None → (IsSome recorded ↔ (0 < length results)) → results ≡ []
none_left [] recorded none some = refl
none_left {X} (x ∷ results) recorded none some = let there : IsSome {T = X} None = subst (λ (o : Option X). IsSome o) none (some.1 (omega arith)) in absurd (cc)
