use Rattle.slices.proofs.Steps.{warehouse_step}
use Rattle.slices.proofs.row_steps.PutWarehouseStep.run.Goals as goal

pub returns-clause-step : goal.returns-clause-step
returns-clause-step c = warehouse_step c.args.rows.now c.replace_warehouse-old.new.self c.args.self.w_id c.replace_warehouse-old.result c.args.self.row c.replace_warehouse-old.ensures.was c.replace_warehouse-old.ensures.tables
