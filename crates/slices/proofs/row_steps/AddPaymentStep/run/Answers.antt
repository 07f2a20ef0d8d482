use Rattle.std.proofs.Common.{sym, ◌∙◌}
use Rattle.slices.proofs.Steps.{payment_step}
use Rattle.slices.proofs.row_steps.AddPaymentStep.run.Goals as goal

pub returns-clause-step : goal.returns-clause-step
returns-clause-step c =
    let key = c.args.self.key in
    let there = c.requires.part.histories key ∙ sym (c.requires.part.districts key) ∙ c.requires.possible.0 in
    payment_step c.args.rows.now c.push_history.new.self key c.args.self.row there c.in_ok-push_history.ensures.ok
