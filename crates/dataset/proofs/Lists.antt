-- Rows beside their keys, one more at a time.
use Rattle.std.proofs.Common.{◌≡◌, ℕ, zero, suc, ◌+◌, ◌<◌, ◌≤◌, List, [], ◌∷◌, ◌++◌, length, take, drop, get_or, Some, sym, ap, ◌∙◌, append_assoc, take-append-drop, arith}
use Rattle.std.specs.List.{zip, slice_get}
use Rattle.std.proofs.lemmas.List.{take_more, take_all}
use Rattle.std.proofs.lemmas.Slice.Zip.{length-zip}

zip-within : {K X : Type 0} (ks : List K) (xs : List X) (n : ℕ) (k : K) → slice_get ks n ≡ Some k → n < length xs → n < length (zip ks xs)
zip-within [] xs n k e below = absurd cc
zip-within (l ∷ ks) [] n k e below = absurd (omega arith)
zip-within (l ∷ ks) (y ∷ xs) zero k e below = omega arith
zip-within (l ∷ ks) (y ∷ xs) (suc n) k e below = let rest = zip-within ks xs n k e (omega arith) in omega arith

zip-at : {K X : Type 0} (ks : List K) (xs : List X) (n : ℕ) (k : K) (x : X) → slice_get ks n ≡ Some k → n < length xs → x ≡ get_or xs n x → get_or (zip ks xs) n (k, x) ≡ (k, x)
zip-at [] xs n k x e below is = absurd cc
zip-at (l ∷ ks) [] n k x e below is = absurd (omega arith)
zip-at (l ∷ ks) (y ∷ xs) zero k x e below is =
    let same_key : l ≡ k = cc in
    let same_row : y ≡ x = sym is in
    λ i. (same_key i, same_row i)
zip-at (l ∷ ks) (y ∷ xs) (suc n) k x e below is = zip-at ks xs n k x e (omega arith) is

-- a key and its row more
pub take-zip : {K X : Type 0} (ks : List K) (xs : List X) (n : ℕ) (k : K) (x : X) → slice_get ks n ≡ Some k → n < length xs → x ≡ get_or xs n x
    → take (n + 1) (zip ks xs) ≡ take n (zip ks xs) ++ ((k, x) ∷ [])
take-zip ks xs n k x e below is =
    take_more (zip ks xs) n (k, x) (zip-within ks xs n k e below) ∙ ap (λ p. take n (zip ks xs) ++ (p ∷ [])) (zip-at ks xs n k x e below is)

-- an element more
pub take-next : {X : Type 0} (xs : List X) (n : ℕ) (x : X) → n < length xs → x ≡ get_or xs n x → take (n + 1) xs ≡ take n xs ++ (x ∷ [])
take-next xs n x below is = take_more xs n x below ∙ ap (λ y. take n xs ++ (y ∷ [])) (sym is)

-- all of them
pub take-zip_all : {K X : Type 0} (ks : List K) (xs : List X) (n : ℕ) → length xs ≤ n → take n (zip ks xs) ≡ zip ks xs
take-zip_all ks xs n h = take_all n (zip ks xs) (omega (arith, length-zip ks xs, h))

-- an element, between those before it and those after it
split-at : {X : Type 0} (xs : List X) (n : ℕ) (x : X) → take (n + 1) xs ≡ take n xs ++ (x ∷ []) → xs ≡ take n xs ++ (x ∷ drop (n + 1) xs)
split-at xs n x next = sym (take-append-drop (n + 1) xs) ∙ ap (λ l. l ++ drop (n + 1) xs) next ∙ append_assoc (take n xs) (x ∷ []) (drop (n + 1) xs)

pub split-zip : {K X : Type 0} (ks : List K) (xs : List X) (n : ℕ) (k : K) (x : X) → slice_get ks n ≡ Some k → n < length xs → x ≡ get_or xs n x
    → zip ks xs ≡ take n (zip ks xs) ++ ((k, x) ∷ drop (n + 1) (zip ks xs))
split-zip ks xs n k x e below is = split-at (zip ks xs) n (k, x) (take-zip ks xs n k x e below is)

pub split-next : {X : Type 0} (xs : List X) (n : ℕ) (x : X) → n < length xs → x ≡ get_or xs n x → xs ≡ take n xs ++ (x ∷ drop (n + 1) xs)
split-next xs n x below is = split-at xs n x (take-next xs n x below is)
