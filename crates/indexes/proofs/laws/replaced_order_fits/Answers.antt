use Rattle.indexes.proofs.Raised.{replaced_fits}
use Rattle.indexes.proofs.laws.replaced_order_fits.Goals as goal

pub returns : goal.returns
returns c = replaced_fits
