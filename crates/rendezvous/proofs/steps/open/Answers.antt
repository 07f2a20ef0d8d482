use Rattle.rendezvous.proofs.Keeping.{begins}
use Rattle.rendezvous.proofs.steps.open.Goals as goal

pub vacant-requires : goal.vacant-requires
vacant-requires g c = begins _ c.args.slots
