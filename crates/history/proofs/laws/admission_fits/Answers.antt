use Rattle.history.proofs.Fitting as fitting
use Rattle.history.proofs.laws.admission_fits.Goals as goal

pub returns : goal.returns
returns c = fitting.admission_fits
