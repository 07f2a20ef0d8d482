use Rattle.std.proofs.Common.{◌≡◌, [], subst}
use Rattle.rendezvous.specs.Awaited.{awaited_from, reported}
use Rattle.rendezvous.proofs.Awaiting.{all_reported, none_awaited}
use Rattle.rendezvous.proofs.laws.none_awaited_where_all_reported.Goals as goal

pub returns-clause-all : goal.returns-clause-all
returns-clause-all g c = λ n xs results is. subst (λ ys. awaited_from n ys ≡ []) is (none_awaited n results)

pub returns-clause-exactly : goal.returns-clause-exactly
returns-clause-exactly g c = λ n xs. (λ none. (reported xs, all_reported n xs none), λ found. subst (λ ys. awaited_from n ys ≡ []) found.1 (none_awaited n found.0))
