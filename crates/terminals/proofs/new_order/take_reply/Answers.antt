use Rattle.std.proofs.Common.{ℕ, List, ◌∷◌, codes, ap, ◌∙◌}
use Rattle.std.specs.Fmt.{decimal, signed_decimal}
use Rattle.files.specs.Word.{credit_text}
use Rattle.std.proofs.Common.{◌≡◌, ◌-◌, [], length, sym}
use Rattle.files.specs.Columns.{Cents, Column, Credit, Moment, Whole, Words, take_columns}
use Rattle.files.specs.FieldRead.{FieldsView, fields_view}
use Rattle.files.specs.Taken.{fields_left}
use Rattle.files.proofs.ColumnsRead.{and_then, cents, credit, moment, take-append, whole, words}
use Rattle.terminals.specs.ReplyColumns.{rate, shown_columns, shown_in}
use Rattle.terminals.specs.RequestColumns.{repeated}
use Rattle.files.proofs.FieldsLeft.{columns_long}
use Rattle.terminals.proofs.new_order.take_reply.Goals as goal

pub returns-clause-taken : goal.returns-clause-taken
returns-clause-taken c = λ none.
    let lines = c.in_ok-take_shown_lines.ensures.taken none in
    let total = c.cents.ensures.taken lines.faultless in
    let entry = c.moment.ensures.taken total.0 in
    let number = c.whole.ensures.taken entry.0 in
    let district = c.rate-3.ensures.taken number.0 in
    let warehouse = c.rate-2.ensures.taken district.0 in
    let discount = c.rate.ensures.taken warehouse.0 in
    let credit = c.credit.ensures.taken discount.0 in
    let last = c.text.ensures.taken credit.0 in
    let text = entry.1.0 in
    let who : List (List ℕ) → List (List ℕ) = λ l. c.text.result ∷ credit_text c.credit.result ∷ decimal c.rate.result ∷ l in
    let taxes : List (List ℕ) → List (List ℕ) = λ l. decimal c.rate-2.result ∷ decimal c.rate-3.result ∷ l in
    let order : List (List ℕ) → List (List ℕ) = λ l. decimal c.whole.result ∷ text ∷ signed_decimal c.cents.result ∷ l in
    let ends = number.1 ∙ ap (λ l. decimal c.whole.result ∷ l) (entry.1.2 ∙ ap (λ l. text ∷ l) (total.1 ∙ ap (λ l. signed_decimal c.cents.result ∷ l) lines.left)) in
    let taxed = warehouse.1 ∙ ap (λ l. decimal c.rate-2.result ∷ l) (district.1 ∙ ap (λ l. decimal c.rate-3.result ∷ l) ends) in
    let all = last.1 ∙ ap (λ l. c.text.result ∷ l) (credit.1 ∙ ap (λ l. credit_text c.credit.result ∷ l) (discount.1 ∙ ap (λ l. decimal c.rate.result ∷ l) taxed)) in
    record {
      faultless = last.0;
      texts = who (taxes (order lines.texts));
      are_said = (text, entry.1.1, ap (λ l. codes "N" ∷ who (taxes (order l))) lines.are_said);
      left = all;
    }

-- before the lines
abbrev eight : List Column
eight = Words 16 ∷ Credit ∷ rate ∷ rate ∷ rate ∷ Whole 1 9999999 ∷ Moment ∷ Cents ∷ []

pub returns-clause-columns : goal.returns-clause-columns
returns-clause-columns c =
    let start = (and_then (words 16 c.args.fields.now c.text.new.self c.text.ensures.field)
    (and_then (credit c.text.new.self c.credit.new.self c.credit.ensures.field)
    (and_then (whole 0 9999 c.credit.new.self c.rate.new.self c.rate.ensures.field)
    (and_then (whole 0 9999 c.rate.new.self c.rate-2.new.self c.rate-2.ensures.field)
    (and_then (whole 0 9999 c.rate-2.new.self c.rate-3.new.self c.rate-3.ensures.field)
    (and_then (whole 1 9999999 c.rate-3.new.self c.whole.new.self c.whole.ensures.field)
    (and_then (moment c.whole.new.self c.moment.new.self c.moment.ensures.field)
    (cents c.moment.new.self c.cents.new.self c.cents.ensures.field)))))))).is in
    let left : length (fields_left c.cents.new.self) ≡ length (fields_left c.args.fields.now) - 8 =
    ap (λ (t : FieldsView). length t.left) start ∙ columns_long eight (fields_view c.args.fields.now) in
    let lines : List Column = repeated (shown_in (length (fields_left c.args.fields.now) - 8)) shown_columns in
    c.in_ok-take_shown_lines.ensures.columns
    ∙ ap (λ n. take_columns (repeated (shown_in n) shown_columns) (fields_view c.cents.new.self)) left
    ∙ ap (take_columns lines) start
    ∙ sym (take-append eight lines (fields_view c.args.fields.now))
