use Rattle.std.proofs.Common.{rules}
use Rattle.number_draws.specs.Words.{seeded}
use Rattle.number_draws.proofs.draws.NumberDraws.new.Goals as goal

pub returns : goal.returns
unfolding seeded
returns c = grind rules
