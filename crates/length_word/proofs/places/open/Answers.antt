use Rattle.length_word.proofs.Within.{begins}
use Rattle.length_word.proofs.places.open.Goals as goal

pub of_words-requires : goal.of_words-requires
of_words-requires c = begins
