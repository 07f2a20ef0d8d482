use Rattle.std.proofs.Common.{refl}
use Rattle.rows.specs.Keys.{order_cmp}
use Rattle.schema.specs.MapRows.{table_of}
use Rattle.schema.proofs.KeyOrders.{orders_total, orders_exact}
use Rattle.schema.proofs.TableWrites.{undone, there_after}
use Rattle.schema.proofs.order_rows.add_order_rows.Goals as goal

pub put_back-requires-clause-there : goal.put_back-requires-clause-there
put_back-requires-clause-there c =
    there_after orders_total orders_exact (table_of order_cmp c.args.orders.now) (table_of order_cmp c.put.new.rows) (table_of order_cmp c.put.new.rows) c.args.key c.args.order
    c.in_ok-was_order.ensures.ok refl

pub returns-in-Err-clause-err_order : goal.returns-in-Err-clause-err_order
returns-in-Err-clause-err_order c =
    undone orders_total orders_exact (table_of order_cmp c.args.orders.now) (table_of order_cmp c.put.new.rows) (table_of order_cmp c.put.new.rows) (table_of order_cmp c.put_back.new.rows)
    c.args.key c.args.order c.in_ok-was_order.was_order c.in_ok-was_order.ensures.ok refl c.in_ok-was_order.ensures.was c.put_back.ensures

pub put_back-requires-in-Err-add-clause-there : goal.put_back-requires-in-Err-add-clause-there
put_back-requires-in-Err-add-clause-there c =
    there_after orders_total orders_exact (table_of order_cmp c.args.new_orders.now) (table_of order_cmp c.put-2.new.rows) (table_of order_cmp c.put-2.new.rows) c.args.key (record {})
    c.in-Ok.ensures.ok refl

pub put_back-requires-in-Err-add-2-clause-there : goal.put_back-requires-in-Err-add-2-clause-there
put_back-requires-in-Err-add-2-clause-there c =
    there_after orders_total orders_exact (table_of order_cmp c.args.orders.now) (table_of order_cmp c.put.new.rows) (table_of order_cmp c.put.new.rows) c.args.key c.args.order
    c.in_ok-was_order.ensures.ok refl

pub returns-in-Err-add-clause-err_order : goal.returns-in-Err-add-clause-err_order
returns-in-Err-add-clause-err_order c =
    undone orders_total orders_exact (table_of order_cmp c.args.orders.now) (table_of order_cmp c.put.new.rows) (table_of order_cmp c.put.new.rows) (table_of order_cmp c.put_back-in-Err-add-2.new.rows)
    c.args.key c.args.order c.in_ok-was_order.was_order c.in_ok-was_order.ensures.ok refl c.in_ok-was_order.ensures.was c.put_back-in-Err-add-2.ensures

pub returns-in-Err-add-clause-err_new : goal.returns-in-Err-add-clause-err_new
returns-in-Err-add-clause-err_new c =
    undone orders_total orders_exact (table_of order_cmp c.args.new_orders.now) (table_of order_cmp c.put-2.new.rows) (table_of order_cmp c.put-2.new.rows) (table_of order_cmp c.put_back-in-Err-add.new.rows)
    c.args.key (record {}) c.in-Ok.was c.in-Ok.ensures.ok refl c.in-Ok.ensures.was c.put_back-in-Err-add.ensures
