use Rattle.closing_word.proofs.Steps.{begins}
use Rattle.closing_word.proofs.board.open.Goals as goal

pub of_words-requires : goal.of_words-requires
of_words-requires c = begins
