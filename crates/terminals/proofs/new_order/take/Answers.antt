use Rattle.std.proofs.Common.{ℕ, List, [], ◌∷◌, codes, ap, ◌∙◌}
use Rattle.std.specs.Fmt.{decimal}
use Rattle.std.proofs.Common.{◌≡◌, ◌-◌, ◌/◌, min, length, rules, sym}
use Rattle.files.specs.Columns.{Column, Moment, take_columns}
use Rattle.files.specs.FieldRead.{FieldsView, fields_view}
use Rattle.files.specs.Taken.{fields_left}
use Rattle.files.proofs.ColumnsRead.{and_then, moment, several, take-append, whole}
use Rattle.terminals.specs.declared.new_order.TheConstants.{MOST_RECORD_LINES}
use Rattle.terminals.specs.RequestColumns.{line_columns, lines_in, number, repeated}
use Rattle.files.proofs.FieldsLeft.{columns_long}
use Rattle.terminals.proofs.new_order.take.Goals as goal

pub returns-clause-taken : goal.returns-clause-taken
returns-clause-taken c = λ none.
    let lines = c.in_ok-take_lines.ensures.taken none in
    let moment = c.moment.ensures.taken lines.faultless in
    let customer = c.whole.ensures.taken moment.0 in
    let home = c.take_district.ensures.taken customer.0 in
    let text = moment.1.0 in
    let at_home : List (List ℕ) → List (List ℕ) = λ l. decimal c.take_district.result.w_id ∷ decimal c.take_district.result.d_id ∷ l in
    let head : List (List ℕ) → List (List ℕ) = λ l. at_home (decimal c.whole.result ∷ text ∷ l) in
    let all = home.1 ∙ ap at_home (customer.1 ∙ ap (λ l. decimal c.whole.result ∷ l) (moment.1.2 ∙ ap (λ l. text ∷ l) lines.left)) in
    record { faultless = home.0; texts = head lines.texts; are_said = (text, moment.1.1, ap (λ l. codes "N" ∷ head l) lines.are_said); left = all }

-- before the lines
abbrev four : List Column
four = number ∷ number ∷ number ∷ Moment ∷ []

pub returns-clause-lines : goal.returns-clause-lines
returns-clause-lines c =
    let start = (and_then (several (number ∷ number ∷ []) c.args.fields.now c.take_district.new.fields c.take_district.ensures.columns)
    (and_then (whole 0 4294967295 c.take_district.new.fields c.whole.new.self c.whole.ensures.field)
    (moment c.whole.new.self c.moment.new.self c.moment.ensures.field))).is in
    let left : length (fields_left c.moment.new.self) ≡ length (fields_left c.args.fields.now) - 4 =
    ap (λ (t : FieldsView). length t.left) start ∙ columns_long four (fields_view c.args.fields.now) in
    let most : c.saturating_sub.result ≡ c.args.count - 5 = search rules in
    c.in_ok-take_lines.ensures.many ∙ (λ i. min (min (most i / 3) (left i / 3)) MOST_RECORD_LINES)

pub returns-clause-columns : goal.returns-clause-columns
returns-clause-columns c =
    let start = (and_then (several (number ∷ number ∷ []) c.args.fields.now c.take_district.new.fields c.take_district.ensures.columns)
    (and_then (whole 0 4294967295 c.take_district.new.fields c.whole.new.self c.whole.ensures.field)
    (moment c.whole.new.self c.moment.new.self c.moment.ensures.field))).is in
    let left : length (fields_left c.moment.new.self) ≡ length (fields_left c.args.fields.now) - 4 =
    ap (λ (t : FieldsView). length t.left) start ∙ columns_long four (fields_view c.args.fields.now) in
    let most : c.saturating_sub.result ≡ c.args.count - 5 = search rules in
    let lines : length c.in_ok-take_lines.field-0 ≡ lines_in c.args.count (length (fields_left c.args.fields.now) - 4) =
    c.in_ok-take_lines.ensures.many ∙ (λ i. min (min (most i / 3) (left i / 3)) MOST_RECORD_LINES) in
    c.in_ok-take_lines.ensures.columns
    ∙ ap (λ n. take_columns (repeated n line_columns) (fields_view c.moment.new.self)) lines
    ∙ ap (take_columns (repeated (lines_in c.args.count (length (fields_left c.args.fields.now) - 4)) line_columns)) start
    ∙ sym (take-append four (repeated (lines_in c.args.count (length (fields_left c.args.fields.now) - 4)) line_columns) (fields_view c.args.fields.now))
