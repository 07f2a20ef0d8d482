use Rattle.std.proofs.Common.{sym, ap, subst, ◌∙◌}
use Rattle.schema.specs.Database.{Database, IsWithinScale}
use Rattle.schema.specs.OrderRows.{with_delivery}
use Rattle.schema.specs.Rows.{database}
use Rattle.schema.proofs.OrdersKept.{orders_fit, other_orders, within_delivered}
use Rattle.schema.proofs.tables.Tables.deliver_order.Goals as goal

pub deliver_order_rows-requires : goal.deliver_order_rows-requires
deliver_order_rows-requires c = c.self.invariant.within.lines_numbered

pub invariant_of-self : goal.invariant_of-self
invariant_of-self c =
    let s = c.self.inside.scale in
    let rows = c.self.inside.rows in
    let call = c.deliver_order_rows in
    orders_fit s rows call.new.orders call.new.new_orders call.new.lines c.self.invariant
    (subst IsWithinScale (sym (other_orders s rows call.new.orders call.new.new_orders call.new.lines _ _ _ call.ensures.order call.ensures.new_order call.ensures.lines))
    (within_delivered (database s rows) c.args.key c.args.carrier c.args.moment c.self.invariant.within))

pub returns : goal.returns
returns c =
    let s = c.self.inside.scale in
    let rows = c.self.inside.rows in
    let call = c.deliver_order_rows in
    other_orders s rows call.new.orders call.new.new_orders call.new.lines _ _ _ call.ensures.order call.ensures.new_order call.ensures.lines
    ∙ ap (λ (m : Database). with_delivery m c.args.key c.args.carrier c.args.moment) c.self.view_is
