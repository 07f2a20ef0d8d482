use Rattle.transactions.proofs.GroupWanted as law
use Rattle.transactions.proofs.laws.works_are_at_warehouses.Goals as goal

pub returns : goal.returns
returns c = law.works_are_at_warehouses
