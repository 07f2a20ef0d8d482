use Rattle.tpcc.proofs.GatheredTables.{names_gathered}
use Rattle.tpcc.proofs.sim.name_gathered.Goals as goal

pub returns-in-Ok-clause-named : goal.returns-in-Ok-clause-named
returns-in-Ok-clause-named g c =
    names_gathered g.F.Write.contents c.args.tables _ _ c.args.gathered.now c.in-Ok.last c.in-Ok.is c.in_ok-write_tables-in-Ok.ensures.named
