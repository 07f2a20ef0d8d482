use Rattle.terminals.proofs.ReadBack.{schedules_are_read}
use Rattle.terminals.proofs.laws.schedules_are_read.Goals as goal

pub returns : goal.returns
returns c = schedules_are_read
