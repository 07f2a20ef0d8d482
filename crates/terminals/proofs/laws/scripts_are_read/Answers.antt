use Rattle.terminals.proofs.ReadBack.{scripts_are_read}
use Rattle.terminals.proofs.laws.scripts_are_read.Goals as goal

pub returns : goal.returns
returns c = scripts_are_read
