use Rattle.std.proofs.Common.{sym, ap, ◌∙◌}
use Rattle.std.specs.FinMap.{remove}
use Rattle.rows.specs.Keys.{order_cmp}
use Rattle.schema.specs.MapRows.{table_of}
use Rattle.partitions.specs.NewOrders.{with_returned}
use Rattle.partitions.proofs.Returned.{entries_again, seen}
use Rattle.partitions.proofs.new_order_rows.NewOrderRows.remove.Goals as goal

pub returns : goal.returns
returns c =
    let own = c.self.inside in
    entries_again (with_returned c.forget.new.returned (table_of order_cmp c.remove.new.rows))
    ∙ ap (with_returned c.forget.new.returned) c.remove.ensures ∙ c.forget.ensures (table_of order_cmp own.rows)
    ∙ ap (λ m. remove m c.args.key) (sym (seen own.returned own.rows c.args.self.now c.self.view_is))
