use Rattle.std.proofs.Common.{[], ◌∷◌, refl, ap, ◌∙◌}
use Rattle.std.specs.Fmt.{decimal}
use Rattle.files.specs.Columns.{MaybeWhole}
use Rattle.files.proofs.ColumnsRead.{and_then, several, whole}
use Rattle.terminals.specs.Nullable.{nullable_text}
use Rattle.terminals.proofs.delivery.take_reply.Goals as goal

pub returns-clause-taken : goal.returns-clause-taken
returns-clause-taken c = λ none.
    let order = c.take_order.ensures.taken none in
    let carrier = c.whole-2.ensures.taken order.0 in
    let district = c.whole.ensures.taken carrier.0 in
    let said = decimal c.whole.result ∷ decimal c.whole-2.result ∷ nullable_text c.take_order.result ∷ [] in
    let all = district.1 ∙ ap (λ l. decimal c.whole.result ∷ l) (carrier.1 ∙ ap (λ l. decimal c.whole-2.result ∷ l) order.1) in
    record { faultless = district.0; texts = said; are_said = refl; left = all }

pub returns-clause-columns : goal.returns-clause-columns
returns-clause-columns c =
    (and_then (whole 1 10 c.args.fields.now c.whole.new.self c.whole.ensures.field)
    (and_then (whole 1 10 c.whole.new.self c.whole-2.new.self c.whole-2.ensures.field)
    (several (MaybeWhole 1 9999999 ∷ []) c.whole-2.new.self c.take_order.new.fields c.take_order.ensures.column))).is
