-- The messages of one sender, in a list that is put together.
use Rattle.std.proofs.Common.{◌≡◌, ◌≢◌, ℕ, true, false, List, [], ◌∷◌, ◌++◌, refl, sym, ap, ◌∙◌, eq-eqb, ne_eqb, append-nil}
use Rattle.std.specs.Prelude.{◌==◌, if◌then◌else◌}
use Rattle.queues.specs.declared.sent.Sent.{Sent}
use Rattle.queues.specs.Order.{of}

module _ {T : Type 0} where
  -- of two lists together
  pub of-append : (number : ℕ) (xs ys : List (Sent T)) → of number (xs ++ ys) ≡ of number xs ++ of number ys
  of-append number [] ys = refl
  of-append number (s ∷ xs) ys =
      let rest = of-append number xs ys in
      elim (s.sender == number) as (λ b. (if b then s.message ∷ of number (xs ++ ys) else of number (xs ++ ys)) ≡ (if b then s.message ∷ of number xs else of number xs) ++ of number ys) [
        | true ↦ ap (λ l. s.message ∷ l) rest
        | false ↦ rest
      ]

  -- a message of the sender is added at the end
  pub of-own : (number : ℕ) (xs : List (Sent T)) (s : Sent T) → s.sender ≡ number → of number (xs ++ s ∷ []) ≡ of number xs ++ s.message ∷ []
  of-own number xs s own =
      of-append number xs (s ∷ []) ∙ ap (λ b. of number xs ++ (if b then s.message ∷ [] else [])) (eq-eqb s.sender number own)

  -- a message of another sender changes nothing
  pub of-other : (number : ℕ) (xs : List (Sent T)) (s : Sent T) → s.sender ≢ number → of number (xs ++ s ∷ []) ≡ of number xs
  of-other number xs s other =
      of-append number xs (s ∷ []) ∙ ap (λ b. of number xs ++ (if b then s.message ∷ [] else [])) (ne_eqb s.sender number other) ∙ append-nil (of number xs)

  -- of which there is none in two lists together, there is none in the first
  pub of-none : (number : ℕ) (xs ys : List (Sent T)) → of number (xs ++ ys) ≡ [] → of number xs ≡ []
  of-none number xs ys none = first (of number xs) (of number ys) (sym (of-append number xs ys) ∙ none)
    where
      first : (l m : List T) → l ++ m ≡ [] → l ≡ []
      first [] m e = refl
      first (x ∷ l) m e = cc
