use Rattle.closing_word.proofs.Steps.{closes}
use Rattle.closing_word.proofs.board.close.Goals as goal

pub store-requires : goal.store-requires
store-requires c = (c.requires.place.at_table, c.requires.place.some_word, closes _ _ _ c.requires.closer)
