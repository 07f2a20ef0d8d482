use Rattle.std.proofs.Common.{IsTrue, length, sym, ap, subst, ◌∙◌}
use Rattle.std.specs.List.{list_all}
use Rattle.schema.specs.Scale.{has_customer}
use Rattle.schema.specs.Database.{Database, IsWithinScale, customer_of_order}
use Rattle.schema.specs.OrderRows.{StoodThere, is_line_within, with_order}
use Rattle.schema.specs.Rows.{database}
use Rattle.schema.proofs.OrdersKept.{orders_fit, other_orders, within_added, by_three, on_ok_three, on_err_three, if_ok_three}
use Rattle.schema.proofs.tables.Tables.add_order.Goals as goal

pub invariant_of-self : goal.invariant_of-self
invariant_of-self c =
    let s = c.self.inside.scale in
    let rows = c.self.inside.rows in
    let a = c.args in
    let call = c.add_order_rows in
    let customer = subst (λ (m : Database). IsTrue (has_customer m.scale (customer_of_order a.key a.order))) (sym c.self.view_is) c.requires.customer in
    let known = subst (λ (m : Database). IsTrue (list_all (is_line_within m.scale) a.lines.items)) (sym c.self.view_is) c.requires.lines in
    by_three call.result call.ensures.order call.ensures.new_order call.ensures.lines call.ensures.err_order call.ensures.err_new call.ensures.err_lines
    (λ x y z. orders_fit s rows call.new.orders call.new.new_orders call.new.lines c.self.invariant
    (subst IsWithinScale (sym (other_orders s rows call.new.orders call.new.new_orders call.new.lines _ _ _ x y z))
    (within_added (database s rows) a.key a.order a.lines.items c.self.invariant.within c.requires.number customer c.requires.few known)))
    (λ x y z. orders_fit s rows call.new.orders call.new.new_orders call.new.lines c.self.invariant
    (subst IsWithinScale (sym (other_orders s rows call.new.orders call.new.new_orders call.new.lines _ _ _ x y z)) c.self.invariant.within))

pub returns-clause-ok : goal.returns-clause-ok
returns-clause-ok c =
    let s = c.self.inside.scale in
    let rows = c.self.inside.rows in
    let call = c.add_order_rows in
    on_ok_three call.result call.ensures.order call.ensures.new_order call.ensures.lines
    (λ x y z. other_orders s rows call.new.orders call.new.new_orders call.new.lines _ _ _ x y z ∙ ap (λ (m : Database). with_order m c.args.key c.args.order c.args.lines.items) c.self.view_is)

pub returns-clause-replaced : goal.returns-clause-replaced
returns-clause-replaced c =
    let call = c.add_order_rows in
    if_ok_three call.result call.ensures.was_order call.ensures.was_new call.ensures.were_lines
    (λ replaced x y z. subst (λ (m : Database). StoodThere m c.args.key (length c.args.lines.items) replaced) c.self.view_is (record { order = x; new_order = y; lines = z }))

pub returns-clause-err : goal.returns-clause-err
returns-clause-err c =
    let s = c.self.inside.scale in
    let rows = c.self.inside.rows in
    let call = c.add_order_rows in
    on_err_three call.result call.ensures.err_order call.ensures.err_new call.ensures.err_lines
    (λ x y z. other_orders s rows call.new.orders call.new.new_orders call.new.lines _ _ _ x y z ∙ c.self.view_is)
