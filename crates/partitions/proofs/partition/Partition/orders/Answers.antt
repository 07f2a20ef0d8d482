use Rattle.std.proofs.Common.{ap, ◌∙◌}
use Rattle.std.specs.FinMap as map
use Rattle.schema.proofs.KeyOrders.{orders_total}
use Rattle.schema.proofs.OrderedParts.{whole_part}
use Rattle.partitions.specs.Parts.{Part}
use Rattle.partitions.proofs.partition.Partition.orders.Goals as goal

pub returns-clause-rows : goal.returns-clause-rows
returns-clause-rows c =
    c.of_map.ensures ∙ c.range.ensures.between tt
    ∙ whole_part orders_total c.self.inside.rows.orders.entries c.range.ensures.ordered
    ∙ ap (λ (v : Part). map.entries v.tables.orders) c.self.view_is
