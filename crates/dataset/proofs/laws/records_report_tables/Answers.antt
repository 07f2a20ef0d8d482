use Rattle.dataset.proofs.Reported as reported
use Rattle.dataset.proofs.laws.records_report_tables.Goals as goal

pub returns : goal.returns
returns c =
    reported.records_report_tables c.args.one.now c.args.other.now c.scale.ensures.within c.scale-2.ensures.within c.columns_are_in_range.ensures c.columns_are_in_range-2.ensures
