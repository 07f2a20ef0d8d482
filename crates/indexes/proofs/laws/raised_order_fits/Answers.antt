use Rattle.indexes.proofs.Raised.{raised_fits}
use Rattle.indexes.proofs.laws.raised_order_fits.Goals as goal

pub returns : goal.returns
returns c = raised_fits
