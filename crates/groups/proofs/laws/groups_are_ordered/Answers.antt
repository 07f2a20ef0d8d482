use Rattle.groups.proofs.SameGroups as groups
use Rattle.groups.proofs.laws.groups_are_ordered.Goals as goal

pub returns-clause-total : goal.returns-clause-total
returns-clause-total c = groups.groups_total

pub returns-clause-exact : goal.returns-clause-exact
returns-clause-exact c = groups.groups_exact
