use Rattle.rendezvous.proofs.Awaiting.{awaited_at_most}
use Rattle.rendezvous.proofs.laws.awaited_are_at_most_the_places.Goals as goal

pub returns : goal.returns
returns g c = λ n xs. awaited_at_most n xs
