use Rattle.rendezvous.proofs.Keeping.{resigns}
use Rattle.rendezvous.proofs.steps.resign.Goals as goal

pub split_seat-requires : goal.split_seat-requires
split_seat-requires g c = (c.requires.seat.at_table, c.requires.seat.some_word, resigns _ _ _ c.requires.reported)
