use Rattle.std.proofs.Common.{◌+◌, IsTrue, sym, ap, subst, ◌∙◌}
use Rattle.std.specs.FinMap as table
use Rattle.schema.specs.OrderRows.{line_key, without_order}
use Rattle.partitions.specs.Parts.{Part}
use Rattle.partitions.proofs.HomeOrders.{orders_fit, other_orders}
use Rattle.partitions.proofs.partition.Partition.take_back_order.Goals as goal

pub take_back_order-requires-clause-order : goal.take_back_order-requires-clause-order
take_back_order-requires-clause-order c = subst (λ (v : Part). IsTrue (table.contains_key v.tables.orders c.args.key)) (sym c.self.view_is) c.requires.order

pub take_back_order-requires-clause-new_order : goal.take_back_order-requires-clause-new_order
take_back_order-requires-clause-new_order c = subst (λ (v : Part). IsTrue (table.contains_key v.tables.new_orders c.args.key)) (sym c.self.view_is) c.requires.new_order

pub take_back_order-requires-clause-lines : goal.take_back_order-requires-clause-lines
take_back_order-requires-clause-lines c = λ n below. subst (λ (v : Part). IsTrue (table.contains_key v.tables.lines (line_key c.args.key (1 + n)))) (sym c.self.view_is) (c.requires.lines n below)

pub invariant_of-self : goal.invariant_of-self
invariant_of-self c =
    let p = c.self.inside in
    let call = c.take_back_order in
    orders_fit p.catalog p.home p.rows call.new.orders call.new.self call.new.lines c.self.invariant _
    (other_orders p.catalog p.home p.rows call.new.orders call.new.self call.new.lines _ _ _ call.ensures.order call.ensures.new_order call.ensures.lines
    ∙ ap (λ (v : Part). record v { tables = without_order v.tables c.args.key c.args.replaced }) c.self.view_is) c.requires.within

pub returns : goal.returns
returns c =
    let p = c.self.inside in
    let call = c.take_back_order in
    other_orders p.catalog p.home p.rows call.new.orders call.new.self call.new.lines _ _ _ call.ensures.order call.ensures.new_order call.ensures.lines
    ∙ ap (λ (v : Part). record v { tables = without_order v.tables c.args.key c.args.replaced }) c.self.view_is
