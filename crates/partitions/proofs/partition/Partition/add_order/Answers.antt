use Rattle.std.proofs.Common.{IsTrue, length, sym, ap, subst, ◌∙◌}
use Rattle.std.specs.List.{list_all}
use Rattle.schema.specs.Scale.{has_customer}
use Rattle.schema.specs.Database.{customer_of_order}
use Rattle.schema.specs.OrderRows.{StoodThere, is_line_within, with_order}
use Rattle.schema.proofs.OrdersKept.{by_three, on_ok_three, on_err_three, if_ok_three}
use Rattle.partitions.specs.Parts.{Part}
use Rattle.partitions.specs.Partitions.{part}
use Rattle.partitions.proofs.HomeOrders.{orders_fit, other_orders, part_with_order}
use Rattle.partitions.proofs.partition.Partition.add_order.Goals as goal

pub invariant_of-self : goal.invariant_of-self
invariant_of-self c =
    let p = c.self.inside in
    let a = c.args in
    let call = c.add_order in
    let was = part p.catalog p.home p.rows in
    let fits = orders_fit p.catalog p.home p.rows call.new.orders call.new.self call.new.lines c.self.invariant in
    let home = c.requires.home ∙ sym (ap (λ (v : Part). v.home) c.self.view_is) in
    let customer = subst (λ (v : Part). IsTrue (has_customer v.tables.scale (customer_of_order a.key a.order))) (sym c.self.view_is) c.requires.customer in
    let known = subst (λ (v : Part). IsTrue (list_all (is_line_within v.tables.scale) a.lines.items)) (sym c.self.view_is) c.requires.lines in
    by_three call.result call.ensures.order call.ensures.new_order call.ensures.lines call.ensures.err_order call.ensures.err_new call.ensures.err_lines
    (λ x y z. fits _ (other_orders p.catalog p.home p.rows call.new.orders call.new.self call.new.lines _ _ _ x y z)
    (part_with_order was a.key a.order a.lines.items c.self.invariant.is_part home c.requires.number customer c.requires.few known))
    (λ x y z. fits _ (other_orders p.catalog p.home p.rows call.new.orders call.new.self call.new.lines _ _ _ x y z) c.self.invariant.is_part)

pub returns-clause-ok : goal.returns-clause-ok
returns-clause-ok c =
    let p = c.self.inside in
    let call = c.add_order in
    on_ok_three call.result call.ensures.order call.ensures.new_order call.ensures.lines
    (λ x y z. other_orders p.catalog p.home p.rows call.new.orders call.new.self call.new.lines _ _ _ x y z
    ∙ ap (λ (v : Part). record v { tables = with_order v.tables c.args.key c.args.order c.args.lines.items }) c.self.view_is)

pub returns-clause-replaced : goal.returns-clause-replaced
returns-clause-replaced c =
    let call = c.add_order in
    if_ok_three call.result call.ensures.was_order call.ensures.was_new call.ensures.were_lines
    (λ replaced x y z. subst (λ (v : Part). StoodThere v.tables c.args.key (length c.args.lines.items) replaced) c.self.view_is (record { order = x; new_order = y; lines = z }))

pub returns-clause-err : goal.returns-clause-err
returns-clause-err c =
    let p = c.self.inside in
    let call = c.add_order in
    on_err_three call.result call.ensures.err_order call.ensures.err_new call.ensures.err_lines
    (λ x y z. other_orders p.catalog p.home p.rows call.new.orders call.new.self call.new.lines _ _ _ x y z ∙ c.self.view_is)
