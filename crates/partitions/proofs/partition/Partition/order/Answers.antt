use Rattle.std.proofs.Common.{sym, ap, ◌∙◌}
use Rattle.std.specs.FinMap as map
use Rattle.schema.proofs.KeyOrders.{orders_total}
use Rattle.schema.proofs.RowReads.{read_entry}
use Rattle.partitions.specs.Parts.{Part}
use Rattle.partitions.proofs.partition.Partition.order.Goals as goal

pub returns : goal.returns
returns c =
    c.get.ensures.value ∙ sym (read_entry orders_total c.self.inside.rows.orders.entries c.args.key)
    ∙ ap (λ (v : Part). map.get v.tables.orders c.args.key) c.self.view_is
