use Rattle.queues.proofs.InOrder.{puts}
use Rattle.queues.proofs.places.put.Goals as goal

pub push_as-requires-clause-rule : goal.push_as-requires-clause-rule
push_as-requires-clause-rule g c = (puts _ _ _ _ c.requires.sender c.requires.number, λ _ _ _ _. tt)
