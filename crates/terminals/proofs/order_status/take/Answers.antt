use Rattle.std.proofs.Common.{ℕ, List, [], ◌∷◌, refl, ap, ◌∙◌}
use Rattle.std.specs.Fmt.{decimal}
use Rattle.terminals.specs.ChoiceText.{choice_text}
use Rattle.terminals.specs.RequestColumns.{choice, number}
use Rattle.files.proofs.ColumnsRead.{and_then, several}
use Rattle.terminals.proofs.order_status.take.Goals as goal

pub returns-clause-taken : goal.returns-clause-taken
returns-clause-taken c = λ none.
    let who = c.take.ensures.taken none in
    let home = c.take_district.ensures.taken who.0 in
    let at_home : List (List ℕ) → List (List ℕ) = λ l. decimal c.take_district.result.w_id ∷ decimal c.take_district.result.d_id ∷ l in
    record { faultless = home.0; texts = at_home (choice_text c.take.result ∷ []); are_said = refl; left = home.1 ∙ ap at_home who.1 }

pub returns-clause-columns : goal.returns-clause-columns
returns-clause-columns c =
    (and_then (several (number ∷ number ∷ []) c.args.fields.now c.take_district.new.fields c.take_district.ensures.columns)
    (several (choice ∷ []) c.take_district.new.fields c.take.new.fields c.take.ensures.column)).is
