use Rattle.rows.specs.Keys.{order_cmp}
use Rattle.schema.specs.MapRows.{table_of}
use Rattle.schema.proofs.KeyOrders.{orders_exact}
use Rattle.schema.proofs.Deliveries.{carried}
use Rattle.schema.proofs.order_rows.deliver_order_rows.Goals as goal

pub remove-requires : goal.remove-requires
remove-requires c = orders_exact

pub returns-clause-order : goal.returns-clause-order
returns-clause-order c = carried c.args.key c.args.carrier (table_of order_cmp c.args.orders.now) (table_of order_cmp c.set_carrier.new.orders) c.set_carrier.ensures
