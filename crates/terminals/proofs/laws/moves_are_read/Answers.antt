use Rattle.terminals.proofs.ReadBack.{moves_are_read}
use Rattle.terminals.proofs.laws.moves_are_read.Goals as goal

pub returns : goal.returns
returns c = moves_are_read
