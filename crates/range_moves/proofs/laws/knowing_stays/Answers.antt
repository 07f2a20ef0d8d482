use Rattle.range_moves.proofs.Knowing.{knowing_stays}
use Rattle.range_moves.proofs.laws.knowing_stays.Goals as goal

pub returns : goal.returns
returns c = knowing_stays
