use Rattle.std.proofs.Common.{refl}
use Rattle.dataset.specs.Columns.{NewOrders, order_key}
use Rattle.dataset.specs.TableRow.{TableRow, OfNewOrder}
use Rattle.dataset.proofs.RowTaken.{TakesRow, added_at, none_added, row_taken}
use Rattle.files.proofs.ColumnValues.{of_reads, read_more, read_none}
use Rattle.dataset.proofs.new_orders.take.Goals.{After-key-key}
use Rattle.dataset.proofs.new_orders.take.Goals as goal

row : After-key-key → TableRow
row c = OfNewOrder c.key-key.result (record {})

takes : (c : After-key-key) → TakesRow NewOrders c.args.loader.now (row c) c.args.fields.now c.key-key.new.fields
unfolding row
takes c =
    let l = c.args.loader.now in
    row_taken NewOrders l (row c) c.args.fields.now c.key-key.new.fields
    (read_more (order_key l.scale.warehouses) (of_reads c.key-key.ensures) read_none)
    (λ i. OfNewOrder (c.key-key.ensures.value i) (record {}))

pub returns-in_ok-insert : goal.returns-in_ok-insert
unfolding row
returns-in_ok-insert c = takes (goal.at.returns-in_ok-insert c).After-key-key _ _ c.stand_at.ensures.fault (λ _. added_at c.stand_at.ensures.same (refl, c.in_ok-insert.ensures.entries))

pub returns-else-stand_at : goal.returns-else-stand_at
unfolding row
returns-else-stand_at c = takes (goal.at.returns-else-stand_at c).After-key-key _ _ c.stand_at.ensures.fault (none_added c.stand_at.ensures.free c.if-stand_at.false)
