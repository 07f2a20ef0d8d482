use Rattle.terminals.specs.FirstFault.{log_fault}
use Rattle.tpcc.proofs.FaultsOfSources.{of_records}
use Rattle.tpcc.proofs.replay.read_entries.Goals as goal

pub returns-in-Err-clause-fault : goal.returns-in-Err-clause-fault
returns-in-Err-clause-fault g c =
    of_records _ (g.L.Input.remaining c.args.log) (g.L.Input.lasts c.args.log) log_fault c.in-Err.error c.of_file.result c.of_file.ensures c.in-Err.ensures.lasts c.in-Err.ensures.first
