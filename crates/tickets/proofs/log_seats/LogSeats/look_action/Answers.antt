use Rattle.std.proofs.Common.{◌∙◌, All, subst}
use Rattle.tickets.specs.LogSeats.{IsRecordedIn}
use Rattle.tickets.proofs.log_seats.LogSeats.look_action.Goals as goal

pub returns-clause-recorded : goal.returns-clause-recorded
returns-clause-recorded g c = subst (All (IsRecordedIn c.args.self.now)) (c.as_mut_slice.ensures.value ∙ c.action.view_is) c.look_all.ensures.recorded
