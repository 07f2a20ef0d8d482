use Rattle.std.proofs.Common.{◌≡◌, ◌≤◌, ◌-◌, ◌==◌, ℕ, None, List, length, refl, ap, subst, ◌∙◌, arith}
use Rattle.rows.specs.declared.keys.OrderLineKey.{OrderLineKey}
use Rattle.rows.specs.declared.records.Order.{Order}
use Rattle.rows.specs.declared.records.OrderLine.{OrderLine}
use Rattle.rows.specs.declared.limits.TheConstants.{LAST_LINE}
use Rattle.files.specs.Columns.{MaybeWhole, Moment, Whole, at_end, read_columns}
use Rattle.files.specs.FieldRead.{FieldsView, fields_view, field_read, whole_read}
use Rattle.files.specs.KindsRead.{moment_read, optional_read}
use Rattle.files.specs.Taken.{fault_of, fields_left}
use Rattle.dataset.specs.Columns.{Orders, lines_columns, or_order, order_key, sizes}
use Rattle.dataset.specs.Formats.{line_count, most_lines}
use Rattle.dataset.specs.TableRow.{TableRow, OfOrder, lines_made}
use Rattle.dataset.specs.TakenAs.{ReadsLines}
use Rattle.dataset.proofs.Bounds.{most_lines_within, some_lines_within}
use Rattle.dataset.proofs.LinesTaken.{order_added, order_follows}
use Rattle.dataset.proofs.RowTaken.{TakesRow, none_added, row_taken}
use Rattle.files.proofs.ColumnValues.{of_reads, read-take, read_more, read_then}
use Rattle.files.proofs.FieldsLeft.{columns_long, field_long}
use Rattle.dataset.proofs.orders.take.Goals.{In_ok-lines_ascend}
use Rattle.dataset.proofs.orders.take.Goals as goal

order : In_ok-lines_ascend → Order
order c = record { c_id = c.whole.result; entry_d = c.moment.result; carrier_id = c.optional_ranged.result; ol_cnt = c.new.result; all_local = c.whole-3.result == 1 }

row : In_ok-lines_ascend → TableRow
row c = OfOrder c.key-key.result (order c) c.in_ok-lines_ascend.ensures.lines

takes : (c : In_ok-lines_ascend) → TakesRow Orders c.args.loader.now (row c) c.args.fields.now c.take_all.new.fields
unfolding order row
takes c =
    let l = c.args.loader.now in
    let s = sizes l.format l.scale in
    let fields = c.args.fields.now in
    let made = c.in_ok-lines_ascend.ensures in
    let count = subst (λ (m : ℕ). ◌≡◌ {A = ℕ × FieldsView} (c.whole-2.result, fields_view c.whole-2.new.self) (field_read (whole_read 1 m) 1 (fields_view c.optional_ranged.new.self)))
    c.most_lines.ensures c.whole-2.ensures.field in
    let left_key : length (fields_left c.key-key.new.fields) ≡ length (fields_left fields) - 3 =
    ap (λ (t : FieldsView). length t.left) (c.key-key.ensures.after ∙ read-take (order_key l.scale.warehouses) (fields_view fields))
    ∙ columns_long (order_key l.scale.warehouses) (fields_view fields) in
    let left_1 = field_long (whole_read 1 l.scale.customers) 1 c.whole.result c.key-key.new.fields c.whole.new.self c.whole.ensures.field in
    let left_2 = field_long moment_read 0 c.moment.result c.whole.new.self c.moment.new.self c.moment.ensures.field in
    let left_3 = field_long (optional_read (whole_read 1 10)) None c.optional_ranged.result c.moment.new.self c.optional_ranged.new.self c.optional_ranged.ensures.field in
    let left_4 = field_long (whole_read 1 (most_lines l.format)) 1 c.whole-2.result c.optional_ranged.new.self c.whole-2.new.self count in
    let left_5 = field_long (whole_read 0 1) 0 c.whole-3.result c.whole-2.new.self c.whole-3.new.self c.whole-3.ensures.field in
    let left : length (fields_left c.whole-3.new.self) ≡ length (fields_left fields) - 8 = omega (arith, left_key, left_1, left_2, left_3, left_4, left_5) in
    let n = line_count l.format (length (fields_left fields) - 8) in
    let read : ReadsLines s c.key-key.result n made.lines c.whole-3.new.self c.take_all.new.fields =
    subst (λ (k : ℕ). ReadsLines s c.key-key.result (line_count l.format k) made.lines c.whole-3.new.self c.take_all.new.fields) left made.read in
    row_taken Orders l (row c) fields c.take_all.new.fields
    (read_more (order_key l.scale.warehouses) (of_reads c.key-key.ensures)
    (read_then (Whole 1 l.scale.customers) c.whole.ensures.field
    (read_then (Moment) c.moment.ensures.field
    (read_then (MaybeWhole 1 10) c.optional_ranged.ensures.field
    (read_then (Whole 1 (most_lines l.format)) count
    (read_then (Whole 0 1) c.whole-3.ensures.field (of_reads read)))))))
    (ap (λ (ls : List (OrderLineKey × OrderLine)). OfOrder c.key-key.result (order c) ls) read.value
    ∙ (λ i. OfOrder (c.key-key.ensures.value i) (record { c_id = c.whole.result; entry_d = c.moment.result; carrier_id = c.optional_ranged.result; ol_cnt = c.new.ensures i; all_local = c.whole-3.result == 1 })
    (lines_made s (c.key-key.ensures.value i) n (read_columns (lines_columns s n) (fields_view c.whole-3.new.self)).0)))

pub returns-in_ok-insert : goal.returns-in_ok-insert
unfolding order row
returns-in_ok-insert c =
    let after = (goal.at.returns-in_ok-insert c).In_ok-lines_ascend in
    let taken = c.in_ok-lines_ascend.ensures in
    takes after _ _ (c.stand_in_order.ensures.fault ∙ ap (or_order (at_end (fields_left c.take_all.new.fields) (fault_of c.take_all.new.fields))) (order_follows (order after) taken))
    (λ _. order_added (order after) taken c.stand_in_order.ensures.same refl c.in_ok-insert.ensures.entries)

pub returns-else-stand_in_order : goal.returns-else-stand_in_order
unfolding order row
returns-else-stand_in_order c =
    let after = (goal.at.returns-else-stand_in_order c).In_ok-lines_ascend in
    let taken = c.in_ok-lines_ascend.ensures in
    takes after _ _ (c.stand_in_order.ensures.fault ∙ ap (or_order (at_end (fields_left c.take_all.new.fields) (fault_of c.take_all.new.fields))) (order_follows (order after) taken))
    (none_added c.stand_in_order.ensures.free c.if-stand_in_order.false)

pub new-requires : goal.new-requires
new-requires c =
    let most : c.most_lines.result ≡ most_lines c.args.loader.now.format = c.most_lines.ensures in
    let some = some_lines_within c.args.loader.now.format in
    let within = most_lines_within c.args.loader.now.format in
    let range = c.whole-2.ensures.range (omega (arith, most, some)) in
    let low = range.0 in
    let high = range.1 in
    let top : c.whole-2.result ≤ LAST_LINE = omega (arith, high, most, within) in
    (omega arith, (low, top))
