use Rattle.rendezvous.proofs.Keeping.{sits_down}
use Rattle.rendezvous.proofs.steps.sit.Goals as goal

pub load-requires : goal.load-requires
load-requires g c = (c.requires.seat.at_table, c.requires.seat.some_word, sits_down _ _ _ _ _ c.requires.waits)
