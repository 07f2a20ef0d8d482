-- The text of lines, by induction on the lines.
use Rattle.std.proofs.Common.{◌≡◌, ℕ, ◌+◌, ◌<◌, List, [], ◌∷◌, ◌++◌, length, map, take, get_or, sym, ap, ◌∙◌, append_assoc, append-nil}
use Rattle.std.proofs.lemmas.List.{take_more, map-append}
use Rattle.tpcc.specs.Edges.{lines_text}

pub lines_text-push : (lines : List (List ℕ)) (line : List ℕ) → lines_text (lines ++ line ∷ []) ≡ lines_text lines ++ (line ++ 10 ∷ [])
lines_text-push [] line = append-nil (line ++ 10 ∷ [])
lines_text-push (first ∷ lines) line =
    ap (λ l. (first ++ 10 ∷ []) ++ l) (lines_text-push lines line) ∙ sym (append_assoc (first ++ 10 ∷ []) (lines_text lines) (line ++ 10 ∷ []))

-- of lines that are the texts of values
pub lines_text-more : {X : Type 0} (text : X → List ℕ) (xs : List X) (i : ℕ) (x : X) → i < length xs → x ≡ get_or xs i x
    → lines_text (map text (take (i + 1) xs)) ≡ lines_text (map text (take i xs)) ++ (text x ++ 10 ∷ [])
lines_text-more {X} text xs i x h e =
    let all : take (i + 1) xs ≡ take i xs ++ (x ∷ []) = take_more xs i x h ∙ ap (λ (y : X). take i xs ++ (y ∷ [])) (sym e) in
    ap (λ (l : List X). lines_text (map text l)) all
    ∙ ap lines_text (map-append text (take i xs) (x ∷ []))
    ∙ lines_text-push (map text (take i xs)) (text x)
