use Rattle.queues.proofs.InOrder.{spares}
use Rattle.queues.proofs.places.spare.Goals as goal

pub another-requires-clause-rule : goal.another-requires-clause-rule
another-requires-clause-rule g c = spares _ _
