use Rattle.slices.proofs.Steps.{stock_step}
use Rattle.slices.proofs.row_steps.PutStockStep.run.Goals as goal

pub returns-clause-step : goal.returns-clause-step
returns-clause-step c = stock_step c.args.rows.now c.replace_stock-old.new.self c.args.self.key c.replace_stock-old.result c.args.self.row c.replace_stock-old.ensures.was c.replace_stock-old.ensures.tables
