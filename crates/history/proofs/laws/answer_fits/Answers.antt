use Rattle.history.proofs.Fitting as fitting
use Rattle.history.proofs.laws.answer_fits.Goals as goal

pub returns : goal.returns
returns c = fitting.answer_fits
