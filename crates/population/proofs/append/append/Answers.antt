use Rattle.std.proofs.Common.{◌∙◌}
use Rattle.population.proofs.Inserts.{insert_last}
use Rattle.population.proofs.append.append.Goals as goal

pub returns-clause-added : goal.returns-clause-added
returns-clause-added g c = c.in_ok-insert.ensures.entries ∙ insert_last g.met.K.Ord.total c.args.key c.args.row c.args.map.now.entries c.requires
