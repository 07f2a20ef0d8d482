use Rattle.rendezvous.proofs.Awaiting.{all_awaited}
use Rattle.rendezvous.proofs.laws.all_are_awaited_at_first.Goals as goal

pub returns : goal.returns
returns g c = λ n count. all_awaited _ n count
