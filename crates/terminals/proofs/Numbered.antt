-- Numbered records, one more at a time.
use Rattle.std.proofs.Common.{◌≡◌, ℕ, suc, ◌+◌, ◌<◌, ◌≤◌, List, [], ◌∷◌, ◌++◌, length, take, get_or, sym, subst, ◌∙◌, arith, zero-add}
use Rattle.std.proofs.lemmas.List.{length-take-le}
use Rattle.terminals.specs.Numbered.{AreNumbered}
use Rattle.terminals.proofs.FieldsOfEach.{next_taken}

pub numbered-none : {T : Type 0} (R : ℕ → T → List (List ℕ) → Type 0) (number : ℕ) → AreNumbered R number [] []
unfolding AreNumbered
numbered-none R number = tt

pub numbered-push : {T : Type 0} (R : ℕ → T → List (List ℕ) → Type 0) (number : ℕ) (items : List T) (rows : List (List (List ℕ))) (item : T) (fields : List (List ℕ))
    → AreNumbered R number items rows → R (number + length items) item fields → AreNumbered R number (items ++ (item ∷ [])) (rows ++ (fields ∷ []))
unfolding AreNumbered
numbered-push R number [] [] item fields h one =
    let P : ℕ → Type 0 = λ n. R n item fields in
    let e : number + 0 ≡ number = omega arith in
    (subst P e one, tt)
numbered-push R number [] (row ∷ rows) item fields h one = absurd h
numbered-push R number (first ∷ items) [] item fields h one = absurd h
numbered-push R number (first ∷ items) (row ∷ rows) item fields h one =
    let P : ℕ → Type 0 = λ n. R n item fields in
    let e : number + suc (length items) ≡ number + 1 + length items = omega arith in
    (h.0, numbered-push R (number + 1) items rows item fields h.1 (subst P e one))

pub numbered-more : {T : Type 0} (R : ℕ → T → List (List ℕ) → Type 0) (i : ℕ) (items : List T) (rows : List (List (List ℕ))) (item : T) (fields : List (List ℕ))
    → i < length items → item ≡ get_or items i item → AreNumbered R 0 (take i items) rows → R i item fields → AreNumbered R 0 (take (i + 1) items) (rows ++ (fields ∷ []))
numbered-more {T} R i items rows item fields h e are one =
    let before = take i items in
    let up_to : i ≤ length items = omega arith in
    let at : i ≡ 0 + length before = sym (zero-add (length before) ∙ length-take-le i items up_to) in
    let of_number : ℕ → Type 0 = λ n. R n item fields in
    let of_items : List T → Type 0 = λ l. AreNumbered R 0 l (rows ++ (fields ∷ [])) in
    subst of_items (sym (next_taken i items item h e)) (numbered-push R 0 before rows item fields are (subst of_number at one))
