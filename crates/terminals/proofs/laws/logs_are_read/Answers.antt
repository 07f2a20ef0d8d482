use Rattle.terminals.proofs.ReadBack.{logs_are_read}
use Rattle.terminals.proofs.laws.logs_are_read.Goals as goal

pub returns : goal.returns
returns c = logs_are_read
