-- The fields of an order's lines, one line more at a time.
use Rattle.std.proofs.Common.{◌≡◌, ℕ, ◌+◌, ◌-◌, ◌/◌, ◌<◌, List, [], ◌∷◌, ◌++◌, length, take, get_or, flat_map, refl, sym, ap, ◌∙◌}
use Rattle.std.proofs.lemmas.List.{append-nil}
use Rattle.std.proofs.lemmas.List.Concat.{flat_map-append}
use Rattle.files.specs.Columns.{Column, MaybeWhole, Moment, Whole}
use Rattle.requests.specs.declared.order_status.StatusLine.{StatusLine}
use Rattle.terminals.specs.ReplyColumns.{status_columns, status_order}
use Rattle.terminals.specs.RequestColumns.{repeated}
use Rattle.terminals.specs.OrderStatus.{IsStatusLine, AreStatusLines}
use Rattle.terminals.proofs.Listings.{listed-push, listed-more}

-- the fields of one line more
joined : (each : List (List (List ℕ))) (line : List (List ℕ)) (fields : List (List ℕ)) → fields ≡ flat_map (λ line. line) each
    → fields ++ line ≡ flat_map (λ line. line) (each ++ (line ∷ []))
joined each line fields is =
    let one : flat_map (λ line. line) (line ∷ []) ≡ line = append-nil line in
    let all : flat_map (λ line. line) (each ++ (line ∷ [])) ≡ flat_map (λ line. line) each ++ flat_map (λ line. line) (line ∷ []) =
    flat_map-append (λ line. line) each (line ∷ []) in
    ap (λ l. l ++ line) is ∙ sym (all ∙ ap (λ l. flat_map (λ line. line) each ++ l) one)

pub lines-none : AreStatusLines [] []
lines-none = ([], tt, refl)

pub lines-push : (lines : List StatusLine) (fields : List (List ℕ)) (line : StatusLine) (said : List (List ℕ))
    → AreStatusLines lines fields → IsStatusLine line said → AreStatusLines (lines ++ (line ∷ [])) (fields ++ said)
lines-push lines fields line said are one =
    (are.0 ++ (said ∷ []), listed-push IsStatusLine lines are.0 line said are.1 one, joined are.0 said fields are.2)

pub lines-more : (i : ℕ) (lines : List StatusLine) (fields : List (List ℕ)) (line : StatusLine) (said : List (List ℕ))
    → i < length lines → line ≡ get_or lines i line → AreStatusLines (take i lines) fields → IsStatusLine line said
    → AreStatusLines (take (i + 1) lines) (fields ++ said)
lines-more i lines fields line said h e are one =
    (are.0 ++ (said ∷ []), listed-more IsStatusLine i lines are.0 line said h e are.1 one, joined are.0 said fields are.2)

-- ---- columns

-- before the lines
abbrev pub three : List Column
three = Whole 1 9999999 ∷ Moment ∷ MaybeWhole 1 10 ∷ []

-- where the first field is not empty, there is an order
pub there_is_one : (fields : List (List ℕ)) → ((rest : List (List ℕ)) → fields ≡ [] ∷ rest → ⊥) → status_order fields ≡ three ++ repeated ((length fields - 3) / 5) status_columns
there_is_one [] none = refl
there_is_one ([] ∷ rest) none = absurd (none rest refl)
there_is_one ((byte ∷ bytes) ∷ rest) none = refl
