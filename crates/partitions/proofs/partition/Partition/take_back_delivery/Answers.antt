use Rattle.std.proofs.Common.{IsTrue, sym, ap, subst, ◌∙◌}
use Rattle.std.specs.FinMap as table
use Rattle.partitions.specs.Deliveries.{without_delivery}
use Rattle.partitions.specs.Parts.{Part}
use Rattle.partitions.specs.Partitions.{part}
use Rattle.partitions.proofs.HomeOrders.{orders_fit, other_orders}
use Rattle.partitions.proofs.HomeDeliveries.{part_undelivered}
use Rattle.partitions.proofs.partition.Partition.take_back_delivery.Goals as goal

pub invariant_of-self : goal.invariant_of-self
invariant_of-self c =
    let p = c.self.inside in
    let there = subst (λ (v : Part). IsTrue (table.contains_key v.tables.orders c.args.key)) (sym c.self.view_is) c.requires.order in
    orders_fit p.catalog p.home p.rows c.put_carrier_back.new.orders c.put_back.new.self c.put_moments_back.new.lines c.self.invariant _
    (other_orders p.catalog p.home p.rows c.put_carrier_back.new.orders c.put_back.new.self c.put_moments_back.new.lines _ _ _ c.put_carrier_back.ensures c.put_back.ensures c.put_moments_back.ensures)
    (part_undelivered (part p.catalog p.home p.rows) c.self.invariant.is_part c.args.key there c.args.before)

pub returns : goal.returns
returns c =
    let p = c.self.inside in
    other_orders p.catalog p.home p.rows c.put_carrier_back.new.orders c.put_back.new.self c.put_moments_back.new.lines _ _ _ c.put_carrier_back.ensures c.put_back.ensures c.put_moments_back.ensures
    ∙ ap (λ (v : Part). record v { tables = without_delivery v.tables c.args.key c.args.before }) c.self.view_is
