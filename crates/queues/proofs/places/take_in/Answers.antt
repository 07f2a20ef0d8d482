use Rattle.queues.proofs.InOrder.{takes_in}
use Rattle.queues.proofs.places.take_in.Goals as goal

pub absorb-requires-clause-rule : goal.absorb-requires-clause-rule
absorb-requires-clause-rule g c = takes_in _ _ _ _ c.requires.taker c.requires.sender
