use Rattle.history.proofs.Fitting as fitting
use Rattle.history.proofs.laws.entry_fits.Goals as goal

pub returns : goal.returns
returns c = fitting.entry_fits
