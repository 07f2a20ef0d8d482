use Rattle.std.proofs.Common.{◌+◌, IsTrue, sym, ap, subst, ◌∙◌}
use Rattle.std.specs.FinMap as table
use Rattle.schema.specs.Database.{Database, IsWithinScale}
use Rattle.schema.specs.OrderRows.{line_key, without_order}
use Rattle.schema.proofs.OrdersKept.{orders_fit, other_orders}
use Rattle.schema.proofs.tables.Tables.take_back_order.Goals as goal

pub take_back_order_rows-requires-clause-order : goal.take_back_order_rows-requires-clause-order
take_back_order_rows-requires-clause-order c = subst (λ (m : Database). IsTrue (table.contains_key m.orders c.args.key)) (sym c.self.view_is) c.requires.order

pub take_back_order_rows-requires-clause-new_order : goal.take_back_order_rows-requires-clause-new_order
take_back_order_rows-requires-clause-new_order c = subst (λ (m : Database). IsTrue (table.contains_key m.new_orders c.args.key)) (sym c.self.view_is) c.requires.new_order

pub take_back_order_rows-requires-clause-lines : goal.take_back_order_rows-requires-clause-lines
take_back_order_rows-requires-clause-lines c = λ n below. subst (λ (m : Database). IsTrue (table.contains_key m.lines (line_key c.args.key (1 + n)))) (sym c.self.view_is) (c.requires.lines n below)

pub invariant_of-self : goal.invariant_of-self
invariant_of-self c =
    let s = c.self.inside.scale in
    let rows = c.self.inside.rows in
    let call = c.take_back_order_rows in
    orders_fit s rows call.new.orders call.new.new_orders call.new.lines c.self.invariant
    (subst IsWithinScale (sym (other_orders s rows call.new.orders call.new.new_orders call.new.lines _ _ _ call.ensures.order call.ensures.new_order call.ensures.lines
    ∙ ap (λ (m : Database). without_order m c.args.key c.args.replaced) c.self.view_is)) c.requires.within)

pub returns : goal.returns
returns c =
    let s = c.self.inside.scale in
    let rows = c.self.inside.rows in
    let call = c.take_back_order_rows in
    other_orders s rows call.new.orders call.new.new_orders call.new.lines _ _ _ call.ensures.order call.ensures.new_order call.ensures.lines
    ∙ ap (λ (m : Database). without_order m c.args.key c.args.replaced) c.self.view_is
