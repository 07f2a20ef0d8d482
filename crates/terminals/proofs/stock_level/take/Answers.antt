use Rattle.std.proofs.Common.{ℕ, List, [], ◌∷◌, refl, ap, ◌∙◌}
use Rattle.std.specs.Fmt.{decimal}
use Rattle.terminals.specs.RequestColumns.{number}
use Rattle.files.proofs.ColumnsRead.{and_then, several, whole}
use Rattle.terminals.proofs.stock_level.take.Goals as goal

pub returns-clause-taken : goal.returns-clause-taken
returns-clause-taken c = λ none.
    let threshold = c.whole.ensures.taken none in
    let home = c.take_district.ensures.taken threshold.0 in
    let at_home : List (List ℕ) → List (List ℕ) = λ l. decimal c.take_district.result.w_id ∷ decimal c.take_district.result.d_id ∷ l in
    record { faultless = home.0; texts = at_home (decimal c.whole.result ∷ []); are_said = refl; left = home.1 ∙ ap at_home threshold.1 }

pub returns-clause-columns : goal.returns-clause-columns
returns-clause-columns c =
    (and_then (several (number ∷ number ∷ []) c.args.fields.now c.take_district.new.fields c.take_district.ensures.columns)
    (whole 0 4294967295 c.take_district.new.fields c.whole.new.self c.whole.ensures.field)).is
