-- The lines in an order's record, put one after another.
use Rattle.std.proofs.Common.{◌≡◌, ℕ, List, [], ◌∷◌, ◌++◌, sym, ap, subst, ◌∙◌}
use Rattle.std.proofs.lemmas.List.{append-nil}
use Rattle.std.proofs.lemmas.Grind.{flat_map-append}
use Rattle.rows.specs.declared.keys.OrderLineKey.{OrderLineKey}
use Rattle.rows.specs.declared.records.OrderLine.{OrderLine}
use Rattle.dataset.specs.Records.{Field, Number, line_columns, lines_fields}
use Rattle.dataset.specs.Writing.{Adds}
use Rattle.dataset.proofs.Texts.{adds-then}

pub no-lines : (out : List (List ℕ)) → Adds [] out out
no-lines out = record { texts = []; are_spelt = tt; added = sym (append-nil out) }

-- one line more
pub lines-added : (lines : List (OrderLineKey × OrderLine)) (line : OrderLineKey × OrderLine) {old mid new : List (List ℕ)} → Adds (lines_fields lines) old mid
    → Adds (Number line.0.number ∷ line_columns line.1) mid new → Adds (lines_fields (lines ++ line ∷ [])) old new
lines-added lines line {old} {mid} {new} before one =
    let fields : OrderLineKey × OrderLine → List Field = λ e. Number e.0.number ∷ line_columns e.1 in
    let all : lines_fields lines ++ fields line ≡ lines_fields (lines ++ line ∷ []) = ap (λ l. lines_fields lines ++ l) (sym (append-nil (fields line))) ∙ sym (flat_map-append fields lines (line ∷ [])) in
    subst (λ l. Adds l old new) all (adds-then before one)
