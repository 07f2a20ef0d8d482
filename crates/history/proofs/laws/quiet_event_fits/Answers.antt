use Rattle.history.proofs.Fitting as fitting
use Rattle.history.proofs.laws.quiet_event_fits.Goals as goal

pub returns : goal.returns
returns c = fitting.quiet_event_fits
