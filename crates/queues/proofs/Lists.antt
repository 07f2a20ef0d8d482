-- The element at a place of a list that was changed, by `slice_get`.
use Rattle.std.proofs.Common.{◌≡◌, ◌≢◌, ℕ, zero, suc, ◌+◌, ◌<◌, ◌⊎◌, List, [], ◌∷◌, ◌++◌, length, set, refl, sym, ap, ◌∙◌, subst, inl, inr, ⊎_elim, arith, length-append}
use Rattle.std.specs.Prelude.{Some, slice_get}
use Rattle.std.proofs.lemmas.Option.{none-some, same_Some}

module _ {A : Type 0} where
  -- the element at a place of a list in which one place was written
  pub at_set : (l : List A) (i j : ℕ) (a b : A) → slice_get (set l i a) j ≡ Some b → ((j ≡ i) × (a ≡ b)) ⊎ ((j ≢ i) × (slice_get l j ≡ Some b))
  at_set [] i j a b e = absurd (none-some b e)
  at_set (x ∷ xs) zero zero a b e = inl (refl, same_Some a b e)
  at_set (x ∷ xs) zero (suc j) a b e = inr ((λ h. omega arith), e)
  at_set (x ∷ xs) (suc i) zero a b e = inr ((λ h. omega arith), e)
  at_set (x ∷ xs) (suc i) (suc j) a b e = ⊎_elim (λ (t : (j ≡ i) × (a ≡ b)). inl (ap suc t.0, t.1)) (λ (t : (j ≢ i) × (slice_get xs j ≡ Some b)). let n = t.0 in inr ((λ h. n (omega arith)), t.1)) (at_set xs i j a b e)

  -- the element at a place of a list with one more at its end
  pub at_snoc : (l : List A) (a b : A) (j : ℕ) → slice_get (l ++ a ∷ []) j ≡ Some b → (slice_get l j ≡ Some b) ⊎ ((length l ≡ j) × (a ≡ b))
  at_snoc [] a b zero e = inr (refl, same_Some a b e)
  at_snoc [] a b (suc j) e = absurd (none-some b e)
  at_snoc (x ∷ xs) a b zero e = inl e
  at_snoc (x ∷ xs) a b (suc j) e = ⊎_elim (λ t. inl t) (λ (t : (length xs ≡ j) × (a ≡ b)). inr (ap suc t.0, t.1)) (at_snoc xs a b j e)

  -- all meet it, and so does the one that was added
  pub all_pushed : (F : ℕ → A → Type 0) (l after : List A) (a : A) (n : ℕ) → after ≡ l ++ a ∷ [] → length l ≡ n → ((j : ℕ) (b : A) → slice_get l j ≡ Some b → F j b) → F n a → (j : ℕ) (b : A) → slice_get after j ≡ Some b → F j b
  all_pushed F l after a n pushed long all mine j b e =
      ⊎_elim (all j b) (λ (t : (length l ≡ j) × (a ≡ b)). subst (λ (y : ℕ × A). F y.0 y.1) (λ k. ((sym long ∙ t.0) k, t.1 k)) mine) (at_snoc l a b j (ap (λ m. slice_get m j) (sym pushed) ∙ e))

  -- it is one longer
  pub length_pushed : (l after : List A) (a : A) (n : ℕ) → after ≡ l ++ a ∷ [] → length l ≡ n → length after ≡ n + 1
  length_pushed l after a n pushed long = ap length pushed ∙ length-append l (a ∷ []) ∙ ap (λ m. m + 1) long

  -- all of a list, counted from a number, meet it
  abbrev pub AllFrom : (ℕ → A → Type 0) → ℕ → List A → Type 0
  AllFrom F from l = (k : ℕ) (a : A) → slice_get l k ≡ Some a → F (from + k) a

  -- so the first does, and the rest, counted from the next number
  pub all_next : (F : ℕ → A → Type 0) (from : ℕ) (l rest : List A) (a : A) → l ≡ a ∷ rest → AllFrom F from l → F from a × AllFrom F (from + 1) rest
  all_next F from l rest a is all = (
    subst (λ n. F n a) (let e : from + 0 ≡ from = omega arith in e) (all 0 a (ap (λ m. slice_get m 0) is)),
    λ k b e. subst (λ n. F n b) (let e : from + suc k ≡ from + 1 + k = omega arith in e) (all (suc k) b (ap (λ m. slice_get m (suc k)) is ∙ e)),
  )

  -- the element at a place within the list
  pub found : (F : ℕ → A) (l : List A) (k n : ℕ) → length l ≡ n → ((j : ℕ) (a : A) → slice_get l j ≡ Some a → a ≡ F j) → k < n → slice_get l k ≡ Some (F k)
  found F [] k n long all low = absurd (omega (arith, long))
  found F (x ∷ xs) zero n long all low = ap Some (all 0 x refl)
  found F (x ∷ xs) (suc k) n long all low = found (λ j. F (suc j)) xs k (length xs) refl (λ j a e. all (suc j) a e) (omega (arith, long))
