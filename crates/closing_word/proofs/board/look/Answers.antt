use Rattle.closing_word.proofs.Steps.{looks}
use Rattle.closing_word.proofs.board.look.Goals as goal

pub load_new_seat-found-requires : goal.load_new_seat-found-requires
load_new_seat-found-requires c = (c.requires.some_word, looks _)
