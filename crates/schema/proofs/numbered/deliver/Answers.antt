use Rattle.std.proofs.Common.{length, get_or, ap, arith}
use Rattle.std.proofs.lemmas.List.Edits.{map_over_more}
use Rattle.schema.proofs.LinesDelivered.{dated}
use Rattle.schema.proofs.numbered.deliver.Goals as goal

pub loop-row-preserved : goal.loop-row-preserved
loop-row-preserved c =
    let now = c.loop-row.row-items in
    let place = c.loop-row.row-index in
    map_over_more (dated c.args.moment) c.args.rows.now.items now place (get_or now place c.row-item.result) (omega (arith, ap length c.deref_mut-row-items.ensures.value))
    c.loop-row.invariant (ap (get_or now place) c.row-item.is)
