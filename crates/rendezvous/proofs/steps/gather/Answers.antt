use Rattle.rendezvous.proofs.Keeping.{joins}
use Rattle.rendezvous.proofs.steps.gather.Goals as goal

pub join_seat-requires : goal.join_seat-requires
join_seat-requires g c = (c.requires.seat.at_table, c.requires.beside.at_table, c.requires.no_slot, c.requires.seat.some_word, joins _ _ _ _ _ c.requires.some c.requires.reported c.requires.others_reported c.requires.round c.requires.after)
