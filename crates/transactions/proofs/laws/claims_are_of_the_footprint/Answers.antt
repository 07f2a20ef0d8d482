use Rattle.transactions.proofs.Reached as law
use Rattle.transactions.proofs.laws.claims_are_of_the_footprint.Goals as goal

pub returns-clause-some : goal.returns-clause-some
returns-clause-some c = law.within

pub returns-clause-once : goal.returns-clause-once
returns-clause-once c = law.each_once c.footprints_name_each_group_once.ensures
