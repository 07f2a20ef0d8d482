use Rattle.files.proofs.NextMark.{lanes_reported}
use Rattle.files.proofs.marks.Marks.of_lanes.Goals as goal

pub returns-clause-reports : goal.returns-clause-reports
returns-clause-reports c = lanes_reported c.args.bytes.now c.args.at c.requires
