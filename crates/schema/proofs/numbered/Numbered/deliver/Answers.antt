use Rattle.schema.proofs.LinesDelivered.{dated_order}
use Rattle.schema.proofs.numbered.Numbered.deliver.Goals as goal

pub invariant_of-self : goal.invariant_of-self
invariant_of-self c = dated_order c.args.moment c.self.inside.rows.items c.deliver.new.rows.items c.deliver.ensures c.self.invariant

pub returns-clause-ordered : goal.returns-clause-ordered
returns-clause-ordered c = dated_order c.args.moment c.self.inside.rows.items c.deliver.new.rows.items c.deliver.ensures c.self.invariant
