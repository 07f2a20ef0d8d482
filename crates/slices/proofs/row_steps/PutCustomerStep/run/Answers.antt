use Rattle.slices.proofs.Steps.{customer_step}
use Rattle.slices.proofs.row_steps.PutCustomerStep.run.Goals as goal

pub returns-clause-step : goal.returns-clause-step
returns-clause-step c = customer_step c.args.rows.now c.replace_customer-old.new.self c.args.self.key c.replace_customer-old.result c.args.self.row c.replace_customer-old.ensures.was c.requires.possible.1 c.replace_customer-old.ensures.tables
