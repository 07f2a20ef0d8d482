use Rattle.std.proofs.Common.{◌≡◌, ℕ, ap, refl, subst}
use Rattle.rows.specs.declared.keys.OrderLineKey.{OrderLineKey}
use Rattle.rows.specs.declared.records.OrderLine.{OrderLine}
use Rattle.files.specs.Columns.{Whole}
use Rattle.files.specs.FieldRead.{FieldsView, fields_view, field_read, whole_read}
use Rattle.dataset.specs.Columns.{Lines}
use Rattle.dataset.specs.Formats.{most_lines}
use Rattle.dataset.specs.TableRow.{TableRow, OfLine}
use Rattle.dataset.proofs.RowTaken.{TakesRow, added_at, none_added, row_taken}
use Rattle.files.proofs.ColumnValues.{of_reads, read_then}
use Rattle.dataset.proofs.lines.take.Goals.{After-take_row-row}
use Rattle.dataset.proofs.lines.take.Goals as goal

row : After-take_row-row → TableRow
row c = OfLine (record { w_id = c.whole.result; d_id = c.whole-2.result; o_id = c.whole-3.result; number = c.whole-4.result }) c.take_row-row.result

takes : (c : After-take_row-row) → TakesRow Lines c.args.loader.now (row c) c.args.fields.now c.take_row-row.new.fields
unfolding row
takes c =
    let l = c.args.loader.now in
    let key : OrderLineKey = record { w_id = c.whole.result; d_id = c.whole-2.result; o_id = c.whole-3.result; number = c.whole-4.result } in
    let number = subst (λ (m : ℕ). ◌≡◌ {A = ℕ × FieldsView} (c.whole-4.result, fields_view c.whole-4.new.self) (field_read (whole_read 1 m) 1 (fields_view c.whole-3.new.self)))
    c.most_lines.ensures c.whole-4.ensures.field in
    row_taken Lines l (row c) c.args.fields.now c.take_row-row.new.fields
    (read_then (Whole 1 l.scale.warehouses) c.whole.ensures.field
    (read_then (Whole 1 10) c.whole-2.ensures.field
    (read_then (Whole 1 9999999) c.whole-3.ensures.field
    (read_then (Whole 1 (most_lines l.format)) number
    (of_reads c.take_row-row.ensures)))))
    (ap (λ (r : OrderLine). OfLine key r) c.take_row-row.ensures.value)

pub returns-in_ok-insert : goal.returns-in_ok-insert
unfolding row
returns-in_ok-insert c = takes (goal.at.returns-in_ok-insert c).After-take_row-row _ _ c.stand_at.ensures.fault (λ _. added_at c.stand_at.ensures.same (refl, c.in_ok-insert.ensures.ok))

pub returns-else-stand_at : goal.returns-else-stand_at
unfolding row
returns-else-stand_at c = takes (goal.at.returns-else-stand_at c).After-take_row-row _ _ c.stand_at.ensures.fault (none_added c.stand_at.ensures.free c.if-stand_at.false)
