-- Texts, one after the other.
use Rattle.std.proofs.Common.{◌≡◌, ◌+◌, ◌<◌, ℕ, List, [], ◌∷◌, ◌++◌, length, take, get_or, Option, refl, sym, ap, ◌∙◌, append_assoc}
use Rattle.std.proofs.lemmas.List.{append-nil, take_more}
use Rattle.std.specs.Io.KnownBytes.{Appends}
use Rattle.std.proofs.KnownBytes.{Appends-nil}
use Rattle.picture.specs.Drawing.{texts}

pub texts-push : {T : Type 0} (text : T → List ℕ) (before : List T) (one : T) → texts text (before ++ (one ∷ [])) ≡ texts text before ++ text one
unfolding texts
texts-push text [] one = append-nil (text one)
texts-push text (first ∷ before) one =
    ap (λ l. text first ++ l) (texts-push text before one) ∙ sym (append_assoc (text first) (texts text before) (text one))

-- nothing is written initially
pub appends-none : {T : Type 0} (text : T → List ℕ) (sink : Option (List ℕ)) → Appends sink sink (texts text [])
unfolding texts
appends-none text sink = Appends-nil sink

-- the texts with one more sign
pub texts-more : {T : Type 0} (text : T → List ℕ) (xs : List T) (i : ℕ) (x : T) → i < length xs → x ≡ get_or xs i x
    → texts text (take (i + 1) xs) ≡ texts text (take i xs) ++ text x
texts-more {T} text xs i x there e =
    let all : take (i + 1) xs ≡ take i xs ++ (x ∷ []) = take_more xs i x there ∙ ap (λ (a : T). take i xs ++ (a ∷ [])) (sym e) in
    ap (λ (l : List T). texts text l) all ∙ texts-push text (take i xs) x

-- the texts of the first ones, and then of the others
pub texts-parted : {T : Type 0} (text : T → List ℕ) (before after : List T) → texts text (before ++ after) ≡ texts text before ++ texts text after
unfolding texts
texts-parted text [] after = refl
texts-parted text (first ∷ before) after =
    ap (λ l. text first ++ l) (texts-parted text before after) ∙ sym (append_assoc (text first) (texts text before) (texts text after))
