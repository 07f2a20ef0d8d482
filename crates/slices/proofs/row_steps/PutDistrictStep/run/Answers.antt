use Rattle.slices.proofs.Steps.{district_step}
use Rattle.slices.proofs.row_steps.PutDistrictStep.run.Goals as goal

pub returns-clause-step : goal.returns-clause-step
returns-clause-step c = district_step c.args.rows.now c.replace_district-old.new.self c.args.self.key c.replace_district-old.result c.args.self.row c.replace_district-old.ensures.was c.replace_district-old.ensures.tables
