-- Sources that are read one after the other.
use Rattle.std.proofs.Common.{◌≡◌, ℕ, ◌+◌, ◌<◌, List, [], ◌∷◌, ◌++◌, length, map, take, drop, get_or, sym, ap, subst, ◌∙◌}
use Rattle.std.specs.List.{AllZip}
use Rattle.std.proofs.lemmas.List.{drop_more, take_more, map-append}
use Rattle.std.proofs.lemmas.Slice.Zip.{all_zipped_more}

-- the next of the sources is as it was at first, and so are those behind it
pub next_source : {X : Type 0} (old xs : List X) (i : ℕ) (x : X) → i < length old → i < length xs → drop i xs ≡ drop i old → x ≡ get_or xs i x
    → (x ≡ get_or old i x) × (drop (i + 1) xs ≡ drop (i + 1) old)
next_source old xs i x there here same is =
    let e : get_or xs i x ∷ drop (i + 1) xs ≡ get_or old i x ∷ drop (i + 1) old = sym (drop_more xs i x here) ∙ same ∙ drop_more old i x there in
    let first : get_or xs i x ≡ get_or old i x = cc in
    let rest : drop (i + 1) xs ≡ drop (i + 1) old = cc in
    (is ∙ first, rest)

-- one more was read
pub read_more : {X Y Z : Type 0} (f : X → Y) (P : Y → Z → Type 0) (xs : List X) (i : ℕ) (x : X) (zs : List Z) (z : Z) → i < length xs → x ≡ get_or xs i x
    → AllZip P (map f (take i xs)) zs → P (f x) z → AllZip P (map f (take (i + 1) xs)) (zs ++ z ∷ [])
read_more {X} {Y} {Z} f P xs i x zs z there is all one =
    let more : take (i + 1) xs ≡ take i xs ++ x ∷ [] = take_more xs i x there ∙ ap (λ (y : X). take i xs ++ y ∷ []) (sym is) in
    let mapped : map f (take (i + 1) xs) ≡ map f (take i xs) ++ f x ∷ [] = ap (map f) more ∙ map-append f (take i xs) (x ∷ []) in
    let Are : List Y → Type 0 = λ ys. AllZip P ys (zs ++ z ∷ []) in
    subst Are (sym mapped) (all_zipped_more P (map f (take i xs)) zs (f x) z all one)
