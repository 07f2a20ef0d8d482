use Rattle.local_locks.proofs.GroupWanted as group_wanted
use Rattle.local_locks.proofs.laws.each_covered_group_is_wanted.Goals as goal

pub returns : goal.returns
returns c = group_wanted.each_covered_group_is_wanted
