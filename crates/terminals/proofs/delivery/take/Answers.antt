use Rattle.std.proofs.Common.{ℕ, List, [], ◌∷◌, refl, ap, ◌∙◌}
use Rattle.std.specs.Fmt.{decimal}
use Rattle.terminals.specs.RequestColumns.{number}
use Rattle.files.proofs.ColumnsRead.{and_then, moment, several, whole}
use Rattle.terminals.proofs.delivery.take.Goals as goal

pub returns-clause-taken : goal.returns-clause-taken
returns-clause-taken c = λ none.
    let moment = c.moment.ensures.taken none in
    let carrier = c.whole.ensures.taken moment.0 in
    let home = c.take_district.ensures.taken carrier.0 in
    let text = moment.1.0 in
    let at_home : List (List ℕ) → List (List ℕ) = λ l. decimal c.take_district.result.w_id ∷ decimal c.take_district.result.d_id ∷ l in
    let said = at_home (decimal c.whole.result ∷ text ∷ []) in
    let all = home.1 ∙ ap at_home (carrier.1 ∙ ap (λ l. decimal c.whole.result ∷ l) moment.1.2) in
    record { faultless = home.0; texts = said; are_said = (text, moment.1.1, refl); left = all }

pub returns-clause-columns : goal.returns-clause-columns
returns-clause-columns c =
    (and_then (several (number ∷ number ∷ []) c.args.fields.now c.take_district.new.fields c.take_district.ensures.columns)
    (and_then (whole 0 4294967295 c.take_district.new.fields c.whole.new.self c.whole.ensures.field)
    (moment c.whole.new.self c.moment.new.self c.moment.ensures.field))).is
