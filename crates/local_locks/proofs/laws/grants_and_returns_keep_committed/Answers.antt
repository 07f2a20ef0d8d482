use Rattle.local_locks.proofs.Keeping.{grants_keep, returns_keep}
use Rattle.local_locks.proofs.laws.grants_and_returns_keep_committed.Goals as goal

pub returns-clause-grants : goal.returns-clause-grants
returns-clause-grants c = grants_keep

pub returns-clause-returns : goal.returns-clause-returns
returns-clause-returns c = returns_keep
