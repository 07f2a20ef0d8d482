use Rattle.std.proofs.Common.{ap, ◌∙◌}
use Rattle.schema.specs.Database.{Database, rows_where, is_of_district}
use Rattle.schema.specs.Rows.{database}
use Rattle.schema.proofs.OrderedParts.{orders_part, new_orders_numbered}
use Rattle.schema.proofs.tables.Tables.new_orders_of.Goals as goal

pub returns-clause-rows : goal.returns-clause-rows
returns-clause-rows c =
    let t = c.self.inside in
    c.of_map.ensures ∙ c.range.ensures.between c.new.ensures.exhausted
    ∙ orders_part c.args.home _ _ (c.new.ensures.start ∙ c.first_order.ensures) (c.new.ensures.end ∙ c.last_order.ensures) t.rows.new_orders.entries c.range.ensures.ordered (new_orders_numbered (database t.scale t.rows) c.self.invariant.within)
    ∙ ap (λ (m : Database). rows_where (is_of_district c.args.home) m.new_orders) c.self.view_is
