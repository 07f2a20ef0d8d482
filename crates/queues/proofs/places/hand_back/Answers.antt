use Rattle.queues.proofs.InOrder.{hands_back}
use Rattle.queues.proofs.places.hand_back.Goals as goal

pub another-requires-clause-rule : goal.another-requires-clause-rule
another-requires-clause-rule g c = hands_back _ _ c.requires.both.0 c.requires.both.1
