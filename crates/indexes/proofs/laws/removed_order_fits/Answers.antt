use Rattle.indexes.proofs.Raised.{removed_fits}
use Rattle.indexes.proofs.laws.removed_order_fits.Goals as goal

pub returns : goal.returns
returns c = removed_fits
