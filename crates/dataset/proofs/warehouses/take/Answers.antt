use Rattle.std.proofs.Common.{refl}
use Rattle.files.specs.Columns.{Cents, Whole, Words}
use Rattle.dataset.specs.Columns.{Warehouses, address_columns}
use Rattle.dataset.specs.TableRow.{TableRow, OfWarehouse}
use Rattle.dataset.proofs.RowTaken.{TakesRow, added_at, none_added, row_taken}
use Rattle.files.proofs.ColumnValues.{of_reads, read_more, read_none, read_then}
use Rattle.dataset.proofs.warehouses.take.Goals.{After-cents}
use Rattle.dataset.proofs.warehouses.take.Goals as goal

row : After-cents → TableRow
row c = OfWarehouse c.whole-w_id.result (record { name = c.text.result; address = c.address.result; tax = c.rate.result; ytd = c.cents.result })

takes : (c : After-cents) → TakesRow Warehouses c.args.loader.now (row c) c.args.fields.now c.cents.new.self
unfolding row
takes c =
    let l = c.args.loader.now in
    row_taken Warehouses l (row c) c.args.fields.now c.cents.new.self
    (read_then (Whole 1 l.scale.warehouses) c.whole-w_id.ensures.field
    (read_then (Words 10) c.text.ensures.field
    (read_more (address_columns) (of_reads c.address.ensures)
    (read_then (Whole 0 9999) c.rate.ensures.field
    (read_then (Cents) c.cents.ensures.field read_none)))))
    (λ i. OfWarehouse c.whole-w_id.result (record { name = c.text.result; address = c.address.ensures.value i; tax = c.rate.result; ytd = c.cents.result }))

pub returns-in_ok-push : goal.returns-in_ok-push
unfolding row
returns-in_ok-push c = takes (goal.at.returns-in_ok-push c).After-cents _ _ c.stand_at.ensures.fault (λ _. added_at c.stand_at.ensures.same (refl, c.in_ok-push.ensures.items))

pub returns-else-stand_at : goal.returns-else-stand_at
unfolding row
returns-else-stand_at c = takes (goal.at.returns-else-stand_at c).After-cents _ _ c.stand_at.ensures.fault (none_added c.stand_at.ensures.free c.if-stand_at.false)
