use Rattle.queues.proofs.InOrder.{makes}
use Rattle.queues.proofs.places.one_more.Goals as goal

pub another-requires-clause-rule : goal.another-requires-clause-rule
another-requires-clause-rule g c = makes _ _ c.requires.taker
