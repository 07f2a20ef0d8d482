use Rattle.range_moves.proofs.Located.{at_rest}
use Rattle.range_moves.proofs.laws.nothing_is_parked.Goals as goal

pub returns : goal.returns
returns c = at_rest
