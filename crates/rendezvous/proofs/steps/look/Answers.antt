use Rattle.rendezvous.proofs.Keeping.{looks}
use Rattle.rendezvous.proofs.steps.look.Goals as goal

pub load-requires : goal.load-requires
load-requires g c = (c.requires.seat.at_table, c.requires.seat.some_word, looks _ _ _ _ c.requires.some c.requires.whole)
