use Rattle.std.proofs.Common.{sym, rules}
use Rattle.rows.specs.declared.records.Order.{Order}
use Rattle.rows.specs.Keys.{order_cmp}
use Rattle.schema.specs.MapRows.{table_of}
use Rattle.schema.proofs.KeyOrders.{orders_total, orders_exact}
use Rattle.schema.proofs.TableWrites.{changed, not_there}
use Rattle.partitions.proofs.Undelivered.{carried_back}
use Rattle.partitions.proofs.delivery_rows.put_carrier_back.Goals as goal

pub returns-in-Some : goal.returns-in-Some
returns-in-Some c =
    let w : Order = record c.in-Some.row.now { carrier_id = c.args.carrier } in
    let held = c.get_mut.follows.holds w in
    carried_back c.args.key c.args.carrier (table_of order_cmp c.args.orders.now) (table_of order_cmp (c.get_mut.follows.lender w))
    (changed orders_total orders_exact (λ (row : Order). record row { carrier_id = c.args.carrier }) c.args.orders.now (c.get_mut.follows.lender w) c.args.key c.in-Some.row.now
    (sym c.in-Some.ensures.value) (held.3 (search rules)))

pub returns-in_default : goal.returns-in_default
returns-in_default c =
    carried_back c.args.key c.args.carrier (table_of order_cmp c.args.orders.now) (table_of order_cmp c.get_mut.follows.lender-at-none)
    (not_there orders_total orders_exact (λ (row : Order). record row { carrier_id = c.args.carrier }) c.args.orders.now c.get_mut.follows.lender-at-none c.args.key
    (sym c.in_default.ensures.value) c.get_mut.follows.holds-at-none)
