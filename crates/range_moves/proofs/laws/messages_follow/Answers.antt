use Rattle.range_moves.proofs.Located.{forwarded}
use Rattle.range_moves.proofs.laws.messages_follow.Goals as goal

pub returns : goal.returns
returns c = forwarded
