use Rattle.history.proofs.Fitting as fitting
use Rattle.history.proofs.laws.empty_history_fits.Goals as goal

pub returns : goal.returns
returns c = fitting.empty_history_fits
