use Rattle.tpcc.proofs.FaultsOfSources.{of_tables}
use Rattle.tpcc.proofs.streams.read_tables.Goals as goal

pub returns-in-Err-clause-fault : goal.returns-in-Err-clause-fault
returns-in-Err-clause-fault g c =
    of_tables _ (g.D.Input.remaining c.args.data) (g.D.Input.lasts c.args.data) c.in-Err.error c.of_file.result c.of_file.ensures c.in-Err.ensures.lasts c.in-Err.ensures.first
