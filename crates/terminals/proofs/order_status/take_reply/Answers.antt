use Rattle.std.proofs.Common.{◌∷◌, refl, ap, ◌∙◌}
use Rattle.std.specs.Fmt.{decimal, signed_decimal}
use Rattle.std.proofs.Common.{◌≡◌, List, [], drop, sym}
use Rattle.files.specs.Columns.{Cents, Column, Words, take_columns}
use Rattle.files.specs.FieldRead.{FieldsView, fields_view}
use Rattle.files.specs.Taken.{fields_left}
use Rattle.files.proofs.ColumnsRead.{and_then, cents, take-append, whole, words}
use Rattle.terminals.specs.ReplyColumns.{status_order}
use Rattle.terminals.specs.RequestColumns.{number}
use Rattle.files.proofs.FieldsLeft.{columns_left}
use Rattle.terminals.proofs.order_status.take_reply.Goals as goal

pub returns-clause-taken : goal.returns-clause-taken
returns-clause-taken c = λ none.
    let order = c.in_ok-take_order.ensures.taken none in
    let balance = c.cents.ensures.taken order.faultless in
    let last = c.text-3.ensures.taken balance.0 in
    let middle = c.text-2.ensures.taken last.0 in
    let first = c.text.ensures.taken middle.0 in
    let number = c.whole.ensures.taken first.0 in
    let said = decimal c.whole.result ∷ c.text.result ∷ c.text-2.result ∷ c.text-3.result ∷ signed_decimal c.cents.result ∷ order.texts in
    let rest = last.1 ∙ ap (λ l. c.text-3.result ∷ l) (balance.1 ∙ ap (λ l. signed_decimal c.cents.result ∷ l) order.left) in
    let names = first.1 ∙ ap (λ l. c.text.result ∷ l) (middle.1 ∙ ap (λ l. c.text-2.result ∷ l) rest) in
    record { faultless = number.0; texts = said; are_said = (order.texts, order.are_said, refl); left = number.1 ∙ ap (λ l. decimal c.whole.result ∷ l) names }

-- before the order
abbrev five : List Column
five = number ∷ Words 16 ∷ Words 2 ∷ Words 16 ∷ Cents ∷ []

pub returns-clause-columns : goal.returns-clause-columns
returns-clause-columns c =
    let start = (and_then (whole 0 4294967295 c.args.fields.now c.whole.new.self c.whole.ensures.field)
    (and_then (words 16 c.whole.new.self c.text.new.self c.text.ensures.field)
    (and_then (words 2 c.text.new.self c.text-2.new.self c.text-2.ensures.field)
    (and_then (words 16 c.text-2.new.self c.text-3.new.self c.text-3.ensures.field)
    (cents c.text-3.new.self c.cents.new.self c.cents.ensures.field))))).is in
    let left : fields_left c.cents.new.self ≡ drop 5 (fields_left c.args.fields.now) =
    ap (λ (t : FieldsView). t.left) start ∙ columns_left five (fields_view c.args.fields.now) in
    let order : List Column = status_order (drop 5 (fields_left c.args.fields.now)) in
    c.in_ok-take_order.ensures.columns
    ∙ ap (λ l. take_columns (status_order l) (fields_view c.cents.new.self)) left
    ∙ ap (take_columns order) start
    ∙ sym (take-append five order (fields_view c.args.fields.now))
