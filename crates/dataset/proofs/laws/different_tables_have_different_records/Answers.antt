use Rattle.dataset.proofs.Reported.{records_report_tables}
use Rattle.dataset.proofs.laws.different_tables_have_different_records.Goals as goal

pub returns : goal.returns
returns c = records_report_tables
