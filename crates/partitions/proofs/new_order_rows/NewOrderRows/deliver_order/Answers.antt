use Rattle.std.proofs.Common.{sym, ap, ◌∙◌}
use Rattle.std.specs.FinMap.{get, remove}
use Rattle.schema.proofs.KeyOrders.{orders_total, orders_exact}
use Rattle.schema.proofs.TableWrites.{read_tree}
use Rattle.partitions.proofs.Returned.{settled_table, settled_seen}
use Rattle.partitions.proofs.new_order_rows.NewOrderRows.deliver_order.Goals as goal

pub returns-clause-new_order : goal.returns-clause-new_order
returns-clause-new_order c =
    let own = c.self.inside in
    let settle = c.settle.new in
    let same = c.in_ok-settle.ensures.same in
    let none = c.in_ok-settle.ensures.all in
    settled_seen own.returned settle.returned own.rows settle.rows c.args.self.now c.self.view_is same none c.deliver_order_rows.new.new_orders ∙ c.deliver_order_rows.ensures.new_order
    ∙ ap (λ m. remove m c.args.key) (settled_table own.returned settle.returned own.rows settle.rows c.args.self.now c.self.view_is same none)

pub returns-clause-was : goal.returns-clause-was
returns-clause-was c =
    let own = c.self.inside in
    let settle = c.settle.new in
    c.copied-was.ensures ∙ c.get.ensures.value ∙ sym (read_tree orders_total orders_exact settle.rows c.args.key)
    ∙ ap (λ m. get m c.args.key) (settled_table own.returned settle.returned own.rows settle.rows c.args.self.now c.self.view_is c.in_ok-settle.ensures.same c.in_ok-settle.ensures.all)
