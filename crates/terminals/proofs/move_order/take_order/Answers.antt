use Rattle.std.proofs.Common.{ℕ, List, [], ◌∷◌, ap, ◌∙◌, sym}
use Rattle.std.specs.Fmt.{decimal}
use Rattle.files.proofs.ColumnsRead.{and_then, whole}
use Rattle.files.specs.Columns.{take_columns}
use Rattle.terminals.specs.RequestColumns.{number}
use Rattle.terminals.proofs.move_order.take_order.Goals as goal

pub returns-clause-taken : goal.returns-clause-taken
returns-clause-taken c = λ none.
    let to = c.whole-2.ensures.taken none in
    let hi = c.whole.ensures.taken to.0 in
    let lo = c.read_number.ensures.read hi.0 in
    let texts : List (List ℕ) = decimal c.whole.result ∷ decimal c.whole-2.result ∷ [] in
    record {
      faultless = lo.0;
      texts = texts;
      are_said = ap (λ (l : List ℕ). l ∷ texts) lo.1;
      left = sym c.read_number.ensures.left ∙ (hi.1 ∙ ap (λ l. decimal c.whole.result ∷ l) to.1);
    }

pub returns-clause-columns : goal.returns-clause-columns
returns-clause-columns c =
    (and_then (whole 0 4294967295 c.read_number.new.fields c.whole.new.self c.whole.ensures.field) (whole 0 4294967295 c.whole.new.self c.whole-2.new.self c.whole-2.ensures.field)).is
    ∙ ap (take_columns (number ∷ number ∷ [])) c.read_number.ensures.fault
