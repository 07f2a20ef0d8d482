use Rattle.indexes.proofs.Names.{same_names_fit_by}
use Rattle.indexes.proofs.laws.same_names_fit.Goals as goal

pub returns : goal.returns
returns c = same_names_fit_by
