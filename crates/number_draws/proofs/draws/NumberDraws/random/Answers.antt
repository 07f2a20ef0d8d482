use Rattle.std.proofs.Common.{rules}
use Rattle.number_draws.specs.Words.{word, beyond}
use Rattle.number_draws.proofs.draws.NumberDraws.random.Goals as goal

pub returns-clause-value : goal.returns-clause-value
unfolding word
returns-clause-value c = grind rules

pub returns-clause-generator : goal.returns-clause-generator
unfolding beyond
returns-clause-generator c = grind rules
