use Rattle.indexes.proofs.Latest.{put_fits}
use Rattle.indexes.proofs.laws.put_order_fits.Goals as goal

pub returns : goal.returns
returns c = put_fits
