use Rattle.slices.proofs.Joined as joined
use Rattle.slices.proofs.laws.one_slice_keeps_all.Goals as goal

pub returns : goal.returns
returns c = joined.one_slice_keeps_all
