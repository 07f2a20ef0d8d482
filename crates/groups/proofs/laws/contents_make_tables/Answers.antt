use Rattle.groups.proofs.RowsInGroups as rows
use Rattle.groups.proofs.laws.contents_make_tables.Goals as goal

pub returns : goal.returns
returns c = rows.contents_make_tables
