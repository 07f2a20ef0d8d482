use Rattle.rendezvous.proofs.Awaiting.{report_takes_one_number}
use Rattle.rendezvous.proofs.laws.reports_take_one_number.Goals as goal

pub returns : goal.returns
returns g c = λ n place xs r is. report_takes_one_number n place xs r is
