-- The fields of several things, one after the other, with one thing more.
use Rattle.std.proofs.Common.{◌≡◌, ℕ, ◌+◌, ◌<◌, List, [], ◌∷◌, ◌++◌, length, take, get_or, flat_map, sym, ap, ◌∙◌}
use Rattle.std.proofs.lemmas.Grind.{flat_map-append}
use Rattle.std.proofs.lemmas.List.{append-nil, take_more}

-- the elements before the next one, and that one
pub next_taken : {X : Type 0} (i : ℕ) (xs : List X) (x : X) → i < length xs → x ≡ get_or xs i x → take (i + 1) xs ≡ take i xs ++ (x ∷ [])
next_taken {X} i xs x there is = take_more xs i x there ∙ ap (λ (a : X). take i xs ++ (a ∷ [])) (sym is)

pub fields-push : {X : Type 0} (f : X → List (List ℕ)) (xs : List X) (x : X) (said more : List (List ℕ))
    → said ≡ flat_map f xs → more ≡ f x → said ++ more ≡ flat_map f (xs ++ (x ∷ []))
fields-push f xs x said more are one =
    let end : flat_map f (x ∷ []) ≡ f x = append-nil (f x) in
    ap (λ l. l ++ more) are ∙ ap (λ l. flat_map f xs ++ l) (one ∙ sym end) ∙ sym (flat_map-append f xs (x ∷ []))

pub fields-more : {X : Type 0} (f : X → List (List ℕ)) (i : ℕ) (xs : List X) (x : X) → i < length xs → x ≡ get_or xs i x
    → flat_map f (take (i + 1) xs) ≡ flat_map f (take i xs) ++ f x
fields-more f i xs x there is =
    let end : flat_map f (x ∷ []) ≡ f x = append-nil (f x) in
    ap (flat_map f) (next_taken i xs x there is) ∙ flat_map-append f (take i xs) (x ∷ []) ∙ ap (λ l. flat_map f (take i xs) ++ l) end
