use Rattle.history.proofs.Fitting as fitting
use Rattle.history.proofs.laws.unanswered_in_any_order.Goals as goal

pub returns : goal.returns
returns c = fitting.unanswered_in_any_order
