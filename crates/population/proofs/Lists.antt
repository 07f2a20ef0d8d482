-- What holds of each element of a list, or of each at its place.
use Rattle.std.proofs.Common.{◌≡◌, ℕ, zero, suc, ◌+◌, Bool, true, false, cond, List, [], ◌∷◌, ◌++◌, map, length, Some, refl, sym, subst, arith}
use Rattle.std.specs.List.{AllByRecursion, filter, slice_get}

module _ {X : Type 0} (P : X → Type 0) where
  pub each_both : (xs ys : List X) → AllByRecursion P xs → AllByRecursion P ys → AllByRecursion P (xs ++ ys)
  each_both [] ys h k = k
  each_both (x ∷ xs) ys h k = (h.0, each_both xs ys h.1 k)

  pub each_kept : (test : X → Bool) (xs : List X) → AllByRecursion P xs → AllByRecursion P (filter test xs)
  each_kept test [] h = tt
  each_kept test (x ∷ xs) h =
      elim (test x) as (λ b. AllByRecursion P (cond b (x ∷ filter test xs) (filter test xs))) [
        | true ↦ (h.0, each_kept test xs h.1)
        | false ↦ each_kept test xs h.1
      ]

  pub each_same : (xs ys : List X) → xs ≡ ys → AllByRecursion P ys → AllByRecursion P xs
  each_same xs ys same h = subst (AllByRecursion P) (sym same) h

  pub each_weaker : (Q : X → Type 0) → ((x : X) → Q x → P x) → (xs : List X) → AllByRecursion Q xs → AllByRecursion P xs
  each_weaker Q f [] h = tt
  each_weaker Q f (x ∷ xs) h = (f x h.0, each_weaker Q f xs h.1)

  pub each_mapped : {Y : Type 0} (f : Y → X) (ys : List Y) → AllByRecursion (λ y. P (f y)) ys → AllByRecursion P (map f ys)
  each_mapped f [] h = tt
  each_mapped f (y ∷ ys) h = (h.0, each_mapped f ys h.1)

  pub each_from_mapped : {Y : Type 0} (f : Y → X) (ys : List Y) → AllByRecursion P (map f ys) → AllByRecursion (λ y. P (f y)) ys
  each_from_mapped f [] h = tt
  each_from_mapped f (y ∷ ys) h = (h.0, each_from_mapped f ys h.1)

-- the value at a place after a push
pub pushed_at : {X : Type 0} (P : ℕ → X → Type 0) (xs : List X) (x : X) (n : ℕ) → n ≡ length xs → P n x → ((place : ℕ) (y : X) → slice_get xs place ≡ Some y → P place y)
    → (place : ℕ) (y : X) → slice_get (xs ++ x ∷ []) place ≡ Some y → P place y
pushed_at P [] x n is here had zero y found =
    let same : x ≡ y = cc in
    subst (P 0) same (subst (λ m. P m x) is here)
pushed_at P [] x n is here had (suc place) y found = absurd cc
pushed_at P (z ∷ xs) x n is here had zero y found = had zero y found
pushed_at P (z ∷ xs) x n is here had (suc place) y found =
    pushed_at (λ m. P (suc m)) xs x (length xs) refl (subst (λ m. P m x) is here) (λ m. had (suc m)) place y found

-- the value at a place of two lists, one after the other
pub appended_at : {X : Type 0} (P : ℕ → X → Type 0) (xs ys : List X) → ((place : ℕ) (x : X) → slice_get xs place ≡ Some x → P place x)
    → ((place : ℕ) (y : X) → slice_get ys place ≡ Some y → P (length xs + place) y)
    → (place : ℕ) (z : X) → slice_get (xs ++ ys) place ≡ Some z → P place z
appended_at P [] ys before behind place z found = subst (λ n. P n z) (let e : 0 + place ≡ place = omega arith in e) (behind place z found)
appended_at P (x ∷ xs) ys before behind zero z found = before zero z found
appended_at P (x ∷ xs) ys before behind (suc place) z found =
    appended_at (λ n. P (suc n)) xs ys (λ n. before (suc n))
    (λ n y there. subst (λ m. P m y) (let e : suc (length xs) + n ≡ suc (length xs + n) = omega arith in e) (behind n y there)) place z found
