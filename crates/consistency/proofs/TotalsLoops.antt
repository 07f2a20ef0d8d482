-- A loop over rows that stops at the first that fails.
use Rattle.std.proofs.Common.{◌≡◌, ◌↔◌, ℕ, ◌+◌, ◌<◌, ◌≤◌, ◌⊎◌, inl, inr, true, false, List, length, get_or, Some, IsTrue, refl, sym, ap, subst, ◌∙◌, arith}
use Rattle.std.proofs.lemmas.Bool.{cases_lt}
use Rattle.std.proofs.lemmas.Option.{slice_get_read, slice_get_within}
use Rattle.std.specs.List.{slice_get}

-- what holds of each row before a place
abbrev pub EachBefore : {X : Type 0} → (ℕ → X → Type 0) → List X → ℕ → Type 0
EachBefore {X} P xs n = (k : ℕ) (row : X) → slice_get xs k ≡ Some row → k < n → P k row

-- what holds of each row
abbrev pub EachPlace : {X : Type 0} → (ℕ → X → Type 0) → List X → Type 0
EachPlace {X} P xs = (k : ℕ) (row : X) → slice_get xs k ≡ Some row → P k row

below_or_at : (k n : ℕ) → k < n + 1 → (k < n) ⊎ (k ≡ n)
below_or_at k n h = elim (cases_lt k n) [ inl less ↦ inl less | inr more ↦ inr (omega arith) ]

module _ {X : Type 0} (P : ℕ → X → Type 0) (xs : List X) where
  pub each_more : (n : ℕ) (x : X) → EachBefore P xs n → slice_get xs n ≡ Some x → P n x → EachBefore P xs (n + 1)
  each_more n x before there here k row e below =
      elim (below_or_at k n below) [
        | inl less ↦ before k row e less
        | inr at ↦
            let same : Some x ≡ Some row = sym there ∙ ap (slice_get xs) (sym at) ∙ e in
            let is : x ≡ row = cc in
            subst (λ m. P m row) (sym at) (subst (P n) is here)
      ]

  pub each_all : (n : ℕ) → length xs ≤ n → EachBefore P xs n → EachPlace P xs
  each_all n past before k row e = let below : k < length xs = slice_get_within xs k row e in before k row e (omega arith)

  -- the answers of such a loop
  pub holds_at_end : {C : Type 0} → C ↔ EachPlace P xs → (n : ℕ) → length xs ≤ n → EachBefore P xs n → IsTrue true ↔ C
  holds_at_end means n past before = (λ _. means.1 (each_all n past before), λ _. refl)

  pub fails_at : {C : Type 0} → C ↔ EachPlace P xs → (n : ℕ) (x : X) → slice_get xs n ≡ Some x → ¬ P n x → IsTrue false ↔ C
  fails_at means n x there not_here = (λ h. absurd cc, λ c. absurd (not_here (means.0 c n x there)))

-- two ways to say what is asked of each row
pub same_each : {X : Type 0} (P Q : ℕ → X → Type 0) (xs : List X) → ((n : ℕ) (row : X) → n < length xs → (P n row → Q n row) × (Q n row → P n row)) → EachPlace P xs ↔ EachPlace Q xs
same_each P Q xs h = (
  λ p n row e. (h n row (slice_get_within xs n row e)).0 (p n row e),
  λ q n row e. (h n row (slice_get_within xs n row e)).1 (q n row e),
)

-- a value that is asked to equal a term, and another that equals it
pub same_value : {X : Type 0} (value x y : X) → x ≡ y → (value ≡ x → value ≡ y) × (value ≡ y → value ≡ x)
same_value value x y e = (λ h. h ∙ e, λ h. h ∙ sym e)

pub both_ways : {A B C : Type 0} → A ↔ B → B ↔ C → A ↔ C
both_ways f g = (λ a. g.0 (f.0 a), λ c. f.1 (g.1 c))

-- the row that a loop reads at a place of a slice of the items
pub row_read : {X : Type 0} (slice items : List X) → slice ≡ items → (n : ℕ) (x : X) → n < length slice → x ≡ get_or slice n x → slice_get items n ≡ Some x
row_read slice items same n x below is = ap (λ l. slice_get l n) (sym same) ∙ slice_get_read slice (length slice) n x refl below is
