use Rattle.indexes.proofs.Names.{put_keeps_names}
use Rattle.indexes.proofs.laws.put_keeps_names.Goals as goal

pub returns : goal.returns
returns c = put_keeps_names
