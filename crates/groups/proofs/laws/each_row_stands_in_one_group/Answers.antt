use Rattle.groups.proofs.RowsInGroups as rows
use Rattle.groups.proofs.laws.each_row_stands_in_one_group.Goals as goal

pub returns : goal.returns
returns c = rows.each_row_stands_in_one_group
