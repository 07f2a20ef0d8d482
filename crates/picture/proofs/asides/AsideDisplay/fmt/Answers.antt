use Rattle.picture.proofs.asides.AsideDisplay.fmt.Goals as goal

pub returns-in-Groups-clause-writes : goal.returns-in-Groups-clause-writes
returns-in-Groups-clause-writes g c = rw c.in-Groups.is (rw c.row_top.ensures at c.write-in-Groups.ensures.writes)
