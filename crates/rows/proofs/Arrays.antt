-- An array is its elements, one after the other.
use Rattle.std.proofs.Common.{◌≡◌, ℕ, ◌+◌, List, [], ◌∷◌, length, drop, slice_index_or, sym, ap, ◌∙◌, arith, suc}
use Rattle.std.proofs.Math.Seq.{drop-cons}
use Rattle.std.proofs.lemmas.List.{drop_all}

-- the elements from place `from` on, as many as there are defaults
elements : {X : Type 0} (xs : List X) (from : ℕ) (defaults : List X) → List X
elements xs from [] = []
elements xs from (d ∷ ds) = slice_index_or xs from d ∷ elements xs (suc from) ds

-- they are exactly the elements of the list from that place on
elements_are_rest : {X : Type 0} (xs : List X) (from : ℕ) (defaults : List X) → from + length defaults ≡ length xs
    → elements xs from defaults ≡ drop from xs
unfolding elements
elements_are_rest xs from [] h = sym (drop_all from xs (omega arith))
elements_are_rest xs from (d ∷ ds) h =
    ap (λ l. slice_index_or xs from d ∷ l) (elements_are_rest xs (suc from) ds (omega arith)) ∙ sym (drop-cons xs from d (omega arith))

-- ten elements, with any defaults, are an array of ten
pub ten_elements : {X : Type 0} (xs : List X) → length xs ≡ 10 → (d1 d2 d3 d4 d5 d6 d7 d8 d9 d10 : X)
    → slice_index_or xs 0 d1 ∷ slice_index_or xs 1 d2 ∷ slice_index_or xs 2 d3 ∷ slice_index_or xs 3 d4 ∷ slice_index_or xs 4 d5
    ∷ slice_index_or xs 5 d6 ∷ slice_index_or xs 6 d7 ∷ slice_index_or xs 7 d8 ∷ slice_index_or xs 8 d9 ∷ slice_index_or xs 9 d10 ∷ [] ≡ xs
unfolding elements
ten_elements xs h d1 d2 d3 d4 d5 d6 d7 d8 d9 d10 =
    elements_are_rest xs 0 (d1 ∷ d2 ∷ d3 ∷ d4 ∷ d5 ∷ d6 ∷ d7 ∷ d8 ∷ d9 ∷ d10 ∷ []) (sym h)
