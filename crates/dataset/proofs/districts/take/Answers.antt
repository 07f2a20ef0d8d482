use Rattle.std.proofs.Common.{refl}
use Rattle.files.specs.Columns.{Cents, Whole, Words}
use Rattle.dataset.specs.Columns.{Districts, address_columns, district_key}
use Rattle.dataset.specs.TableRow.{TableRow, OfDistrict}
use Rattle.dataset.proofs.RowTaken.{TakesRow, added_at, none_added, row_taken}
use Rattle.files.proofs.ColumnValues.{of_reads, read_more, read_none, read_then}
use Rattle.dataset.proofs.districts.take.Goals.{After-ranged}
use Rattle.dataset.proofs.districts.take.Goals as goal

row : After-ranged → TableRow
row c = OfDistrict c.key-key.result (record { name = c.text.result; address = c.address.result; tax = c.rate.result; ytd = c.cents.result; next_o_id = c.ranged.result })

takes : (c : After-ranged) → TakesRow Districts c.args.loader.now (row c) c.args.fields.now c.ranged.new.self
unfolding row
takes c =
    let l = c.args.loader.now in
    row_taken Districts l (row c) c.args.fields.now c.ranged.new.self
    (read_more (district_key l.scale.warehouses) (of_reads c.key-key.ensures.reads)
    (read_then (Words 10) c.text.ensures.field
    (read_more (address_columns) (of_reads c.address.ensures)
    (read_then (Whole 0 9999) c.rate.ensures.field
    (read_then (Cents) c.cents.ensures.field
    (read_then (Whole 1 10000000) c.ranged.ensures.field read_none))))))
    (λ i. OfDistrict (c.key-key.ensures.reads.value i) (record { name = c.text.result; address = c.address.ensures.value i; tax = c.rate.result; ytd = c.cents.result; next_o_id = c.ranged.result }))

pub returns-in_ok-push : goal.returns-in_ok-push
unfolding row
returns-in_ok-push c = takes (goal.at.returns-in_ok-push c).After-ranged _ _ c.stand_at.ensures.fault (λ _. added_at c.stand_at.ensures.same (refl, c.in_ok-push.ensures.items))

pub returns-else-stand_at : goal.returns-else-stand_at
unfolding row
returns-else-stand_at c = takes (goal.at.returns-else-stand_at c).After-ranged _ _ c.stand_at.ensures.fault (none_added c.stand_at.ensures.free c.if-stand_at.false)
