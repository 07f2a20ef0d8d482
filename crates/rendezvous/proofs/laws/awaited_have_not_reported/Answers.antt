use Rattle.rendezvous.proofs.Awaiting.{awaited_at, place_awaited}
use Rattle.rendezvous.proofs.laws.awaited_have_not_reported.Goals as goal

pub returns : goal.returns
returns g c = λ n number xs. (place_awaited n number xs, λ found. awaited_at n number found.0 xs found.1 found.2)
