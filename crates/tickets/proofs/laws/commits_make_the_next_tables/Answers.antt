use Rattle.tickets.proofs.Committed as kept
use Rattle.tickets.proofs.laws.commits_make_the_next_tables.Goals as goal

pub returns : goal.returns
returns c = kept.AreCommitted-commit
