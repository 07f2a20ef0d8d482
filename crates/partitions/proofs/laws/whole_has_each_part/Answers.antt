use Rattle.partitions.proofs.WholeLaws.{whole_has_part}
use Rattle.partitions.proofs.laws.whole_has_each_part.Goals as goal

pub returns : goal.returns
returns c = λ shared parts place d are each l. whole_has_part shared parts d are each place l
