-- The records of a listing, one more at a time.
use Rattle.std.proofs.Common.{◌≡◌, ℕ, ◌+◌, ◌<◌, List, [], ◌∷◌, ◌++◌, length, take, get_or, sym, subst}
use Rattle.std.specs.List.{AllZip}
use Rattle.terminals.proofs.FieldsOfEach.{next_taken}

pub listed-push : {A B : Type 0} (R : A → B → Type 0) (xs : List A) (ys : List B) (x : A) (y : B) → AllZip R xs ys → R x y → AllZip R (xs ++ (x ∷ [])) (ys ++ (y ∷ []))
listed-push R [] [] x y h one = (one, tt)
listed-push R [] (b ∷ ys) x y h one = absurd h
listed-push R (a ∷ xs) [] x y h one = absurd h
listed-push R (a ∷ xs) (b ∷ ys) x y h one = (h.0, listed-push R xs ys x y h.1 one)

pub listed-more : {A B : Type 0} (R : A → B → Type 0) (i : ℕ) (xs : List A) (ys : List B) (x : A) (y : B)
    → i < length xs → x ≡ get_or xs i x → AllZip R (take i xs) ys → R x y → AllZip R (take (i + 1) xs) (ys ++ (y ∷ []))
listed-more R i xs ys x y h e are one =
    subst (λ l. AllZip R l (ys ++ (y ∷ []))) (sym (next_taken i xs x h e)) (listed-push R (take i xs) ys x y are one)
