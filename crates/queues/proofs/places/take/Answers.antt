use Rattle.queues.proofs.InOrder.{takes}
use Rattle.queues.proofs.places.take.Goals as goal

pub pop_as-requires-clause-rule : goal.pop_as-requires-clause-rule
pop_as-requires-clause-rule g c = (takes _ _ c.requires.taker, λ _ _ _ _. tt)
