use Rattle.slices.proofs.Joined as joined
use Rattle.slices.proofs.laws.cut_slices_are_at_rest.Goals as goal

pub returns : goal.returns
returns c = joined.cut_slices_are_at_rest
