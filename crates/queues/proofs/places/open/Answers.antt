use Rattle.queues.proofs.InOrder.{begins}
use Rattle.queues.proofs.places.open.Goals as goal

pub ruled-requires-clause-rule : goal.ruled-requires-clause-rule
ruled-requires-clause-rule g c = begins
