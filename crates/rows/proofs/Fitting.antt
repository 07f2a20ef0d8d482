-- What is left of two texts where the end that doesn't fit falls off.
use Rattle.std.proofs.Common.{◌≡◌, ℕ, ◌-◌, ◌≤◌, min, Bool, true, false, ◌&&◌, List, [], ◌∷◌, ◌++◌, length, take, refl, sym, ap, ◌∙◌, arith, zero, suc}
use Rattle.std.specs.List.{list_all}
use Rattle.std.proofs.lemmas.List.{take_min}
use Rattle.std.proofs.lemmas.List.Folds.{list_all-append}

-- the first text fits whole
pub take-append : {X : Type 0} (xs ys : List X) (n : ℕ) → length xs ≤ n → take n (xs ++ ys) ≡ xs ++ take (n - length xs) ys
take-append [] ys n h = ap (λ k. take k ys) (let e : n ≡ n - 0 = omega arith in e)
take-append (x ∷ xs) ys zero h = absurd (omega arith)
take-append (x ∷ xs) ys (suc n) h =
    let rest : length xs ≤ n = omega arith in
    ap (λ l. x ∷ l) (take-append xs ys n rest ∙ ap (λ k. xs ++ take k ys) (let e : n - length xs ≡ suc n - suc (length xs) = omega arith in e))

-- as much of the second text as there is room for
pub append_fitting : {X : Type 0} (xs ys : List X) (width room : ℕ) → length xs ≤ width → room ≡ min (width - length xs) (length ys)
    → xs ++ take room ys ≡ take width (xs ++ ys)
append_fitting xs ys width room h e =
    ap (λ k. xs ++ take k ys) e ∙ ap (λ l. xs ++ l) (take_min (width - length xs) ys) ∙ sym (take-append xs ys width h)

-- what falls off at a first cut would fall off at the second
pub take-append_cut : {X : Type 0} (n : ℕ) (xs ys : List X) → take n (take n xs ++ ys) ≡ take n (xs ++ ys)
take-append_cut zero xs ys = refl
take-append_cut (suc n) [] ys = refl
take-append_cut (suc n) (x ∷ xs) ys = ap (λ l. x ∷ l) (take-append_cut n xs ys)

pub list_all-take : {X : Type 0} (p : X → Bool) (n : ℕ) (xs : List X) → list_all p xs ≡ true → list_all p (take n xs) ≡ true
list_all-take p zero xs h = refl
list_all-take p (suc n) [] h = refl
list_all-take p (suc n) (x ∷ xs) h =
    elim (p x) as (λ b. (b && list_all p xs) ≡ true → (b && list_all p (take n xs)) ≡ true) [
      | true ↦ λ k. list_all-take p n xs k
      | false ↦ λ k. k
    ] h

pub list_all_both : {X : Type 0} (p : X → Bool) (xs ys : List X) → list_all p xs ≡ true → list_all p ys ≡ true → list_all p (xs ++ ys) ≡ true
list_all_both p xs ys h k = list_all-append p xs ys ∙ ap (λ b. b && list_all p ys) h ∙ k

-- one text more after a cut
pub cut_more : {X : Type 0} (n : ℕ) (old new all piece : List X) → old ≡ take n all → new ≡ take n (old ++ piece) → new ≡ take n (all ++ piece)
cut_more n old new all piece e f = f ∙ ap (λ l. take n (l ++ piece)) e ∙ take-append_cut n all piece
