use Rattle.std.proofs.Common.{◌≤◌, length, sym, ap, subst, ◌∙◌}
use Rattle.schema.specs.Database.{Database, rows_where, is_of_district}
use Rattle.schema.proofs.OrderedParts.{orders_part, few_orders}
use Rattle.schema.proofs.tables.Tables.orders_of.Goals as goal

pub returns-clause-rows : goal.returns-clause-rows
returns-clause-rows c =
    let t = c.self.inside in
    c.of_map.ensures ∙ c.range.ensures.between c.new.ensures.exhausted
    ∙ orders_part c.args.home _ _ (c.new.ensures.start ∙ c.first_order.ensures) (c.new.ensures.end ∙ c.last_order.ensures) t.rows.orders.entries c.range.ensures.ordered c.self.invariant.within.orders_numbered
    ∙ ap (λ (m : Database). rows_where (is_of_district c.args.home) m.orders) c.self.view_is

pub returns-clause-few : goal.returns-clause-few
returns-clause-few c =
    let t = c.self.inside in
    let few = few_orders c.args.home t.rows.orders.entries c.range.ensures.ordered c.self.invariant.within.orders_numbered in
    subst (λ n. n ≤ 9999999) (ap length (sym (returns-clause-rows c)))
    (subst (λ (m : Database). length (rows_where (is_of_district c.args.home) m.orders) ≤ 9999999) c.self.view_is few)
