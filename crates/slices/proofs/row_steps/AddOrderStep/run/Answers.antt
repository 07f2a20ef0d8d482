use Rattle.slices.proofs.Orders.{order_step}
use Rattle.slices.proofs.row_steps.AddOrderStep.run.Goals as goal

pub returns-clause-step : goal.returns-clause-step
returns-clause-step c =
    let a = c.args.self in
    order_step c.args.rows.now c.add_order.new.self a.key a.order a.lines.items c.in_ok-replaced.replaced c.requires.part c.requires.possible.few c.in_ok-replaced.ensures.replaced c.in_ok-replaced.ensures.ok
