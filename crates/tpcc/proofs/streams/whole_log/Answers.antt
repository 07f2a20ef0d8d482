use Rattle.tpcc.proofs.FaultsOfSources.{of_sink}
use Rattle.tpcc.proofs.streams.whole_log.Goals as goal

pub returns-clause-fault : goal.returns-clause-fault
returns-clause-fault g c = of_sink _ c.in-Err.error c.of_file.result c.of_file.ensures c.in-Err.ensures.failed
