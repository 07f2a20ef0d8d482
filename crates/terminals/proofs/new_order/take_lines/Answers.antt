use Rattle.std.proofs.Common.{◌≡◌, ◌+◌, ◌++◌, ◌∷◌, [], length, flat_map, refl, sym, ap, ◌∙◌, arith}
use Rattle.std.proofs.lemmas.List.{append_assoc, length-append}
use Rattle.files.specs.Columns.{take_columns}
use Rattle.files.specs.FieldRead.{fields_view}
use Rattle.terminals.specs.RequestColumns.{line_columns, repeated}
use Rattle.terminals.proofs.ColumnsTaken.{once_more}
use Rattle.files.specs.Taken.{fields_left}
use Rattle.terminals.specs.NewOrder.{ordered_line_fields}
use Rattle.terminals.proofs.FieldsOfEach.{fields-push}
use Rattle.terminals.proofs.new_order.take_lines.Goals as goal

pub loop-init : goal.loop-init
loop-init c = (λ none. record { faultless = none; texts = []; are_said = sym (ap (flat_map ordered_line_fields) c.new-lines.ensures.items); left = refl }, ap length c.new-lines.ensures.items, refl)

pub loop-preserved : goal.loop-preserved
loop-preserved c =
    let line = c.take_line-line.ensures in (
      λ none.
          let one = line.taken none in
          let before = c.loop.invariant.0 one.faultless in
          let pushed = fields-push ordered_line_fields c.loop.lines.items c.take_line-line.result before.texts one.texts before.are_said one.are_said in
          let left = before.left ∙ ap (λ l. before.texts ++ l) one.left ∙ sym (append_assoc before.texts one.texts (fields_left c.take_line-line.new.fields)) in
          record {
            faultless = before.faultless;
            texts = before.texts ++ one.texts;
            are_said = pushed ∙ ap (flat_map ordered_line_fields) (sym c.in_ok-push.ensures.items);
            left = left;
          },
      ap length c.in_ok-push.ensures.items ∙ length-append c.loop.lines.items (c.take_line-line.result ∷ []) ∙ ap (λ n. n + 1) c.loop.invariant.1,
      once_more c.loop.counter line_columns (fields_view c.args.fields.now) (fields_view c.loop.fields) (fields_view c.take_line-line.new.fields) c.loop.invariant.2 line.columns,
    )

pub returns-clause-taken : goal.returns-clause-taken
returns-clause-taken c = λ none.
    let lines = c.loop.invariant.0 none in
    record { faultless = lines.faultless; texts = lines.texts; are_said = lines.are_said ∙ ap (flat_map ordered_line_fields) (sym c.new.ensures); left = lines.left }

pub returns-clause-columns : goal.returns-clause-columns
returns-clause-columns c =
    let many : c.loop.counter ≡ length c.new.result = sym c.loop.invariant.1 ∙ ap length (sym c.new.ensures) in
    c.loop.invariant.2 ∙ ap (λ n. take_columns (repeated n line_columns) (fields_view c.args.fields.now)) many

pub returns-clause-many : goal.returns-clause-many
returns-clause-many c =
    let long = c.loop.invariant.1 in
    let new : length c.new.result ≡ length c.loop.lines.items = ap length c.new.ensures in
    omega (arith, new, long, c.loop-test.false, c.loop.auto.counter-end)
