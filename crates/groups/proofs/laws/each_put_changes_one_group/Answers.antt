use Rattle.groups.proofs.RowsPut as put
use Rattle.groups.proofs.laws.each_put_changes_one_group.Goals as goal

pub returns : goal.returns
returns c = put.each_put_changes_one_group
