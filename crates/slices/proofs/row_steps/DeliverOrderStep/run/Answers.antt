use Rattle.slices.proofs.Delivered.{delivery_step}
use Rattle.slices.proofs.row_steps.DeliverOrderStep.run.Goals as goal

pub returns-clause-step : goal.returns-clause-step
returns-clause-step c =
    let a = c.args.self in
    delivery_step c.args.rows.now c.deliver_order.new.self a.key a.carrier a.moment c.in_ok-before.before c.requires.part c.requires.possible c.in_ok-before.ensures.before c.in_ok-before.ensures.ok
