use Rattle.std.proofs.Common.{ap, ◌∙◌}
use Rattle.std.specs.FinMap as map
use Rattle.schema.specs.Database.{Database}
use Rattle.schema.proofs.KeyOrders.{orders_total}
use Rattle.schema.proofs.OrderedParts.{whole_part}
use Rattle.schema.proofs.tables.Tables.new_orders.Goals as goal

pub returns-clause-rows : goal.returns-clause-rows
returns-clause-rows c =
    c.of_map.ensures ∙ c.range.ensures.between tt
    ∙ whole_part orders_total c.self.inside.rows.new_orders.entries c.range.ensures.ordered
    ∙ ap (λ (m : Database). map.entries m.new_orders) c.self.view_is
