use Rattle.std.proofs.Common.{◌++◌, List, ℕ, [], ◌∷◌, refl, sym, ap, subst, ◌∙◌}
use Rattle.std.proofs.lemmas.List.{append_assoc}
use Rattle.std.specs.Fmt.{decimal}
use Rattle.files.specs.Taken.{fields_left}
use Rattle.requests.specs.declared.order_status.StatusLine.{StatusLine}
use Rattle.terminals.specs.Nullable.{nullable_text}
use Rattle.terminals.specs.OrderStatus.{AreStatusLines}
use Rattle.terminals.proofs.Nullables.{number_was_taken}
use Rattle.terminals.proofs.StatusLines.{lines-none, lines-push, there_is_one, three}
use Rattle.std.proofs.Common.{◌≡◌, ◌-◌, ◌/◌, true, length, arith}
use Rattle.files.specs.Columns.{Column, take_columns}
use Rattle.files.specs.FieldRead.{FieldsView, fields_view}
use Rattle.files.proofs.Unlike.{true_false}
use Rattle.files.proofs.ColumnsRead.{and_then, maybe_whole, moment, take-append, whole}
use Rattle.files.proofs.FieldsLeft.{columns_long}
use Rattle.terminals.specs.ReplyColumns.{status_columns}
use Rattle.terminals.specs.RequestColumns.{repeated}
use Rattle.terminals.proofs.ColumnsTaken.{once_more}
use Rattle.terminals.proofs.order_status.take_order.Goals as goal

pub loop-init : goal.loop-init
loop-init c = (
  λ none.
      let are : List StatusLine → Type 0 = λ lines. AreStatusLines lines [] in
      record { faultless = none; texts = []; are_said = subst are (sym c.new-lines.ensures.items) lines-none; left = refl },
  refl,
)

pub loop-preserved : goal.loop-preserved
loop-preserved c = (
  λ none.
      let line = c.take_line-line.ensures.taken none in
      let before = c.loop.invariant.0 line.faultless in
      let said = before.texts in
      let more : List (List ℕ) = line.texts in
      let are : List StatusLine → Type 0 = λ lines. AreStatusLines lines (said ++ more) in
      let all = lines-push c.loop.lines.items said c.take_line-line.result more before.are_said line.are_said in
      let left = before.left ∙ ap (λ l. said ++ l) line.left ∙ sym (append_assoc said more (fields_left c.take_line-line.new.fields)) in
      record { faultless = before.faultless; texts = said ++ more; are_said = subst are (sym c.in_ok-push.ensures.items) all; left = left },
  once_more c.loop.counter status_columns (fields_view c.optional_ranged-carrier_id.new.self) (fields_view c.loop.fields) (fields_view c.take_line-line.new.fields) c.loop.invariant.1 c.take_line-line.ensures.columns,
)

pub returns-clause-taken : goal.returns-clause-taken
returns-clause-taken c = λ none.
    let lines = c.loop.invariant.0 none in
    let carrier = number_was_taken c.moment-entry_d.new.self c.optional_ranged-carrier_id.new.self c.optional_ranged-carrier_id.result c.optional_ranged-carrier_id.ensures.taken lines.faultless in
    let entry = c.moment-entry_d.ensures.taken carrier.0 in
    let number = c.whole-o_id.ensures.taken entry.0 in
    let are : List StatusLine → Type 0 = λ l. AreStatusLines l lines.texts in
    let shown = subst are (sym c.new.ensures) lines.are_said in
    let carrier_text = nullable_text c.optional_ranged-carrier_id.result in
    let said = decimal c.whole-o_id.result ∷ entry.1.0 ∷ carrier_text ∷ lines.texts in
    let left = number.1 ∙ ap (λ l. decimal c.whole-o_id.result ∷ l) (entry.1.2 ∙ ap (λ l. entry.1.0 ∷ l) (carrier.1 ∙ ap (λ l. carrier_text ∷ l) lines.left)) in
    record { faultless = number.0; texts = said; are_said = (entry.1.0, entry.1.1, lines.texts, shown, refl); left = left }

pub returns-clause-columns : goal.returns-clause-columns
returns-clause-columns c =
    let old = c.args.fields.now in
    let start = (and_then (whole 1 9999999 old c.whole-o_id.new.self c.whole-o_id.ensures.field)
    (and_then (moment c.whole-o_id.new.self c.moment-entry_d.new.self c.moment-entry_d.ensures.field)
    (maybe_whole 1 10 c.moment-entry_d.new.self c.optional_ranged-carrier_id.new.self c.optional_ranged-carrier_id.ensures.field))).is in
    let left : length (fields_left c.optional_ranged-carrier_id.new.self) ≡ length (fields_left old) - 3 = ap (λ (t : FieldsView). length t.left) start ∙ columns_long three (fields_view old) in
    let turns : c.loop.counter ≡ length (fields_left c.optional_ranged-carrier_id.new.self) / 5 = omega (arith, c.loop-test.false, c.loop.auto.counter-end) in
    let many : c.loop.counter ≡ (length (fields_left old) - 3) / 5 = turns ∙ ap (λ n. n / 5) left in
    let none : (rest : List (List ℕ)) → fields_left old ≡ [] ∷ rest → ⊥ = λ rest e. let yes : c.next_is_empty.result ≡ true = c.next_is_empty.ensures.1 (rest, e) in let no = c.if-next_is_empty.false in absurd (true_false (sym yes ∙ no)) in
    let lines : List Column = repeated ((length (fields_left old) - 3) / 5) status_columns in
    c.loop.invariant.1
    ∙ ap (λ n. take_columns (repeated n status_columns) (fields_view c.optional_ranged-carrier_id.new.self)) many
    ∙ ap (take_columns lines) start
    ∙ sym (take-append three lines (fields_view old))
    ∙ ap (λ columns. take_columns columns (fields_view old)) (sym (there_is_one (fields_left old) none))
