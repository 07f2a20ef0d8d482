use Rattle.std.proofs.Common.{ap, ◌∙◌}
use Rattle.std.specs.FinMap.{get, insert}
use Rattle.std.proofs.lemmas.Result.{on_ok_weaker, IfOk-weaker}
use Rattle.partitions.proofs.Returned.{settled_table, settled_seen}
use Rattle.partitions.proofs.new_order_rows.NewOrderRows.add_order.Goals as goal

pub returns-clause-new_order : goal.returns-clause-new_order
returns-clause-new_order c =
    let own = c.self.inside in
    let settle = c.settle.new in
    let same = c.in_ok-settle.ensures.same in
    let none = c.in_ok-settle.ensures.all in
    on_ok_weaker c.add_order_rows.result (λ e.
    settled_seen own.returned settle.returned own.rows settle.rows c.args.self.now c.self.view_is same none c.add_order_rows.new.new_orders ∙ e
    ∙ ap (λ m. insert m c.args.key (record {})) (settled_table own.returned settle.returned own.rows settle.rows c.args.self.now c.self.view_is same none)) c.add_order_rows.ensures.new_order

pub returns-clause-was_new : goal.returns-clause-was_new
returns-clause-was_new c =
    let own = c.self.inside in
    let settle = c.settle.new in
    IfOk-weaker c.add_order_rows.result _ _ (λ replaced e.
    e ∙ ap (λ m. get m c.args.key) (settled_table own.returned settle.returned own.rows settle.rows c.args.self.now c.self.view_is c.in_ok-settle.ensures.same c.in_ok-settle.ensures.all)) c.add_order_rows.ensures.was_new
