use Rattle.std.proofs.Common.{List, ℕ, [], ◌∷◌, sym, ap, ◌∙◌}
use Rattle.std.specs.Prelude.{codes}
use Rattle.std.specs.Fmt.{decimal, signed_decimal}
use Rattle.files.specs.Word.{credit_text}
use Rattle.files.proofs.ColumnsRead.{and_then, cents, credit, whole, words}
use Rattle.terminals.proofs.payment.take_reply.Goals as goal

pub returns-clause-taken : goal.returns-clause-taken
returns-clause-taken c = λ none.
    let «data» = c.text-4.ensures.taken none in
    let balance = c.cents.ensures.taken «data».0 in
    let discount = c.rate.ensures.taken balance.0 in
    let credit = c.credit.ensures.taken discount.0 in
    let last = c.text-3.ensures.taken credit.0 in
    let middle = c.text-2.ensures.taken last.0 in
    let first = c.text.ensures.taken middle.0 in
    let number = c.whole.ensures.taken first.0 in
    let after_name : List (List ℕ) → List (List ℕ) = λ l. credit_text c.credit.result ∷ decimal c.rate.result ∷ signed_decimal c.cents.result ∷ l in
    let name : List (List ℕ) → List (List ℕ) = λ l. decimal c.whole.result ∷ c.text.result ∷ c.text-2.result ∷ c.text-3.result ∷ l in
    let money = discount.1 ∙ ap (λ l. decimal c.rate.result ∷ l) (balance.1 ∙ ap (λ l. signed_decimal c.cents.result ∷ l) «data».1) in
    let rest = credit.1 ∙ ap (λ l. credit_text c.credit.result ∷ l) money in
    let names = first.1 ∙ ap (λ l. c.text.result ∷ l) (middle.1 ∙ ap (λ l. c.text-2.result ∷ l) (last.1 ∙ ap (λ l. c.text-3.result ∷ l) rest)) in
    record {
      faultless = number.0;
      texts = name (after_name (c.text-4.result ∷ []));
      are_said = ap (λ (t : List ℕ). codes "P" ∷ name (after_name (t ∷ []))) (sym c.in_ok-new.ensures.shown);
      left = number.1 ∙ ap (λ l. decimal c.whole.result ∷ l) names;
    }

pub returns-clause-columns : goal.returns-clause-columns
returns-clause-columns c =
    (and_then (whole 0 4294967295 c.args.fields.now c.whole.new.self c.whole.ensures.field)
    (and_then (words 16 c.whole.new.self c.text.new.self c.text.ensures.field)
    (and_then (words 2 c.text.new.self c.text-2.new.self c.text-2.ensures.field)
    (and_then (words 16 c.text-2.new.self c.text-3.new.self c.text-3.ensures.field)
    (and_then (credit c.text-3.new.self c.credit.new.self c.credit.ensures.field)
    (and_then (whole 0 9999 c.credit.new.self c.rate.new.self c.rate.ensures.field)
    (and_then (cents c.rate.new.self c.cents.new.self c.cents.ensures.field)
    (words 200 c.cents.new.self c.text-4.new.self c.text-4.ensures.field)))))))).is
