use Rattle.std.proofs.Common.{[], ◌∷◌, refl, ap, ◌∙◌}
use Rattle.std.specs.Fmt.{decimal}
use Rattle.files.proofs.ColumnsRead.{and_then, whole}
use Rattle.terminals.proofs.new_order.take_line.Goals as goal

pub returns-clause-taken : goal.returns-clause-taken
returns-clause-taken c = λ none.
    let quantity = c.whole-3.ensures.taken none in
    let supply = c.whole-2.ensures.taken quantity.0 in
    let item = c.whole.ensures.taken supply.0 in
    let said = decimal c.whole.result ∷ decimal c.whole-2.result ∷ decimal c.whole-3.result ∷ [] in
    let all = item.1 ∙ ap (λ l. decimal c.whole.result ∷ l) (supply.1 ∙ ap (λ l. decimal c.whole-2.result ∷ l) quantity.1) in
    record { faultless = item.0; texts = said; are_said = refl; left = all }

pub returns-clause-columns : goal.returns-clause-columns
returns-clause-columns c =
    (and_then (whole 0 4294967295 c.args.fields.now c.whole.new.self c.whole.ensures.field)
    (and_then (whole 0 4294967295 c.whole.new.self c.whole-2.new.self c.whole-2.ensures.field)
    (whole 0 4294967295 c.whole-2.new.self c.whole-3.new.self c.whole-3.ensures.field))).is
