use Rattle.std.proofs.Common.{refl}
use Rattle.files.specs.Columns.{Whole, Words}
use Rattle.dataset.specs.Columns.{Stocks, info_columns}
use Rattle.dataset.specs.TableRow.{TableRow, OfStock}
use Rattle.dataset.proofs.RowTaken.{TakesRow, added_at, none_added, row_taken}
use Rattle.files.proofs.ColumnValues.{of_reads, read_more, read_none, read_then}
use Rattle.dataset.proofs.stocks.take.Goals.{After-text}
use Rattle.dataset.proofs.stocks.take.Goals as goal

row : After-text → TableRow
row c = OfStock (record { w_id = c.whole.result; i_id = c.whole-2.result }) (record { quantity = c.ranged.result; dist = c.district_infos.result; ytd = c.ranged-2.result; order_cnt = c.ranged-3.result; remote_cnt = c.ranged-4.result; «data» = c.text.result })

takes : (c : After-text) → TakesRow Stocks c.args.loader.now (row c) c.args.fields.now c.text.new.self
unfolding row
takes c =
    let l = c.args.loader.now in
    row_taken Stocks l (row c) c.args.fields.now c.text.new.self
    (read_then (Whole 1 l.scale.warehouses) c.whole.ensures.field
    (read_then (Whole 1 l.scale.items) c.whole-2.ensures.field
    (read_then (Whole 10 100) c.ranged.ensures.field
    (read_more (info_columns) (of_reads c.district_infos.ensures)
    (read_then (Whole 0 999999999) c.ranged-2.ensures.field
    (read_then (Whole 0 999999999) c.ranged-3.ensures.field
    (read_then (Whole 0 999999999) c.ranged-4.ensures.field
    (read_then (Words 50) c.text.ensures.field read_none))))))))
    (λ i. OfStock (record { w_id = c.whole.result; i_id = c.whole-2.result }) (record { quantity = c.ranged.result; dist = c.district_infos.ensures.value i; ytd = c.ranged-2.result; order_cnt = c.ranged-3.result; remote_cnt = c.ranged-4.result; «data» = c.text.result }))

pub returns-in_ok-push : goal.returns-in_ok-push
unfolding row
returns-in_ok-push c = takes (goal.at.returns-in_ok-push c).After-text _ _ c.stand_at.ensures.fault (λ _. added_at c.stand_at.ensures.same (refl, c.in_ok-push.ensures.items))

pub returns-else-stand_at : goal.returns-else-stand_at
unfolding row
returns-else-stand_at c = takes (goal.at.returns-else-stand_at c).After-text _ _ c.stand_at.ensures.fault (none_added c.stand_at.ensures.free c.if-stand_at.false)
