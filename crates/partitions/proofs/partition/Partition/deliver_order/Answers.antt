use Rattle.std.proofs.Common.{IsTrue, sym, ap, subst, ◌∙◌}
use Rattle.std.specs.FinMap as table
use Rattle.schema.specs.OrderRows.{with_delivery}
use Rattle.partitions.specs.Deliveries.{StoodBefore}
use Rattle.partitions.specs.Parts.{Part}
use Rattle.partitions.specs.Partitions.{part}
use Rattle.partitions.proofs.HomeOrders.{orders_fit, other_orders}
use Rattle.partitions.proofs.HomeDeliveries.{part_delivered}
use Rattle.partitions.proofs.partition.Partition.deliver_order.Goals as goal

pub invariant_of-self-2 : goal.invariant_of-self-2
invariant_of-self-2 c =
    let p = c.self.inside in
    let call = c.deliver_order in
    let there = subst (λ (v : Part). IsTrue (table.contains_key v.tables.orders c.args.key)) (sym c.self.view_is) c.requires in
    orders_fit p.catalog p.home p.rows call.new.orders call.new.self call.new.lines c.self.invariant _
    (other_orders p.catalog p.home p.rows call.new.orders call.new.self call.new.lines _ _ _ c.in_ok-new_order.ensures.order c.in_ok-new_order.ensures.new_order c.in_ok-new_order.ensures.lines)
    (part_delivered (part p.catalog p.home p.rows) c.self.invariant.is_part c.args.key there c.args.carrier c.args.moment)

pub returns-clause-ok : goal.returns-clause-ok
returns-clause-ok c =
    let p = c.self.inside in
    let call = c.deliver_order in
    other_orders p.catalog p.home p.rows call.new.orders call.new.self call.new.lines _ _ _ c.in_ok-new_order.ensures.order c.in_ok-new_order.ensures.new_order c.in_ok-new_order.ensures.lines
    ∙ ap (λ (v : Part). record v { tables = with_delivery v.tables c.args.key c.args.carrier c.args.moment }) c.self.view_is

pub returns-clause-before : goal.returns-clause-before
returns-clause-before c =
    subst (λ (v : Part). StoodBefore v.tables c.args.key (record { carrier_id = c.carrier_of-carrier_id.result; moments = c.moments_of-moments.result; new_order = c.in_ok-new_order.new_order; room = c.in_ok-new_order.room })) c.self.view_is (record {
      carrier = c.carrier_of-carrier_id.ensures;
      most_lines = c.moments_of-moments.ensures.most_lines;
      moments = c.moments_of-moments.ensures.each;
      new_order = c.in_ok-new_order.ensures.was;
    })
