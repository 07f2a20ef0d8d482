use Rattle.rendezvous.proofs.Keeping.{parts}
use Rattle.rendezvous.proofs.steps.part.Goals as goal

pub split_seat-requires : goal.split_seat-requires
split_seat-requires g c = (c.requires.seat.at_table, c.requires.seat.some_word, parts _ _ _ c.requires.first)
