use Rattle.std.proofs.Common.{◌≡◌, Some, sym, ap, ◌∙◌}
use Rattle.std.specs.FinMap.{insert, entries, from_entries}
use Rattle.rows.specs.Keys.{order_cmp}
use Rattle.schema.specs.MapRows.{table_of, put_row}
use Rattle.partitions.specs.NewOrders.{with_returned}
use Rattle.partitions.proofs.Returned.{NewTable, entries_again, seen}
use Rattle.partitions.proofs.new_order_rows.NewOrderRows.put_back.Goals as goal
use Rattle.partitions.proofs.new_order_rows.NewOrderRows.put_back.Goals.{in-Row-2, in-Nothing-2}

pub returns-in-Some : goal.returns-in-Some
returns-in-Some c =
    let own = c.self.inside in
    let key = c.args.key in
    let rows = table_of order_cmp own.rows in
    let new : c.match-self.self ≡ entries (insert (with_returned c.replace.result rows) key (record {})) = elim c.match-self.branch [ in-Row-2 w ↦ w.self-is | in-Nothing-2 w ↦ w.self-is ] in
    ap (λ es. from_entries es) new ∙ entries_again (insert (with_returned c.replace.result rows) key (record {}))
    ∙ ap (λ r. insert (with_returned r rows) key (record {})) c.replace.ensures.value
    ∙ ap (λ (m : NewTable). put_row m key (Some (record {}))) (sym (seen own.returned own.rows c.args.self.now c.self.view_is))
    ∙ ap (put_row (from_entries {R = order_cmp} c.args.self.now) key) (sym c.in-Some.is)
