use Rattle.std.proofs.Common.{refl}
use Rattle.files.specs.Columns.{Whole, Words}
use Rattle.dataset.specs.Columns.{Items}
use Rattle.dataset.specs.TableRow.{TableRow, OfItem}
use Rattle.dataset.proofs.RowTaken.{TakesRow, added_at, none_added, row_taken}
use Rattle.files.proofs.ColumnValues.{read_none, read_then}
use Rattle.dataset.proofs.items.take.Goals.{After-text-2}
use Rattle.dataset.proofs.items.take.Goals as goal

row : After-text-2 → TableRow
row c = OfItem c.whole-i_id.result (record { im_id = c.ranged.result; name = c.text.result; price = c.ranged-2.result; «data» = c.text-2.result })

takes : (c : After-text-2) → TakesRow Items c.args.loader.now (row c) c.args.fields.now c.text-2.new.self
unfolding row
takes c =
    let l = c.args.loader.now in
    row_taken Items l (row c) c.args.fields.now c.text-2.new.self
    (read_then (Whole 1 l.scale.items) c.whole-i_id.ensures.field
    (read_then (Whole 1 10000) c.ranged.ensures.field
    (read_then (Words 24) c.text.ensures.field
    (read_then (Whole 1 99999) c.ranged-2.ensures.field
    (read_then (Words 50) c.text-2.ensures.field read_none)))))
    refl

pub returns-in_ok-push : goal.returns-in_ok-push
unfolding row
returns-in_ok-push c = takes (goal.at.returns-in_ok-push c).After-text-2 _ _ c.stand_at.ensures.fault (λ _. added_at c.stand_at.ensures.same (refl, c.in_ok-push.ensures.items))

pub returns-else-stand_at : goal.returns-else-stand_at
unfolding row
returns-else-stand_at c = takes (goal.at.returns-else-stand_at c).After-text-2 _ _ c.stand_at.ensures.fault (none_added c.stand_at.ensures.free c.if-stand_at.false)
