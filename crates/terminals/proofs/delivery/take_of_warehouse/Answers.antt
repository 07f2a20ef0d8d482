use Rattle.std.proofs.Common.{[], ◌∷◌, refl, ap, ◌∙◌}
use Rattle.std.specs.Fmt.{decimal}
use Rattle.files.proofs.ColumnsRead.{and_then, moment, whole}
use Rattle.terminals.proofs.delivery.take_of_warehouse.Goals as goal

pub returns-clause-taken : goal.returns-clause-taken
returns-clause-taken c = λ none.
    let moment = c.moment.ensures.taken none in
    let carrier = c.whole-2.ensures.taken moment.0 in
    let home = c.whole.ensures.taken carrier.0 in
    let text = moment.1.0 in
    let said = decimal c.whole.result ∷ decimal c.whole-2.result ∷ text ∷ [] in
    let all = home.1 ∙ ap (λ l. decimal c.whole.result ∷ l) (carrier.1 ∙ ap (λ l. decimal c.whole-2.result ∷ l) moment.1.2) in
    record { faultless = home.0; texts = said; are_said = (text, moment.1.1, refl); left = all }

pub returns-clause-columns : goal.returns-clause-columns
returns-clause-columns c =
    (and_then (whole 0 4294967295 c.args.fields.now c.whole.new.self c.whole.ensures.field)
    (and_then (whole 0 4294967295 c.whole.new.self c.whole-2.new.self c.whole-2.ensures.field)
    (moment c.whole-2.new.self c.moment.new.self c.moment.ensures.field))).is
