use Rattle.std.proofs.Common.{ap, ◌∙◌}
use Rattle.executor.specs.GivenBackViews.{GivenBackView}
use Rattle.transactions.specs.Works.{home_of_claims}
use Rattle.transactions.proofs.ClaimHomes.{home_is, some_claims}
use Rattle.executor.proofs.giving_back.Settle.home.Goals as goal

pub returns : goal.returns
returns g c = home_is c.self.inside.claims c.home.result (some_claims c.self.inside.claims c.self.invariant.1) c.home.ensures.home ∙ ap (λ (v : GivenBackView). home_of_claims v.claims) c.self.view_is
