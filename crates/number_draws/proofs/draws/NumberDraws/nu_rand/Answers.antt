use Rattle.std.proofs.Common.{ap, ◌∙◌}
use Rattle.number_draws.specs.Words.{beyond}
use Rattle.number_draws.proofs.Generators.{beyond-step}
use Rattle.number_draws.proofs.draws.NumberDraws.nu_rand.Goals as goal

pub returns-clause-generator : goal.returns-clause-generator
returns-clause-generator c = c.random-right.ensures.generator ∙ ap (beyond 1) c.random-left.ensures.generator ∙ beyond-step 1 c.args.self.now
