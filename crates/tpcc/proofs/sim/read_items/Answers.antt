use Rattle.terminals.specs.FirstFault.{schedule_fault}
use Rattle.tpcc.proofs.FaultsOfSources.{of_records}
use Rattle.tpcc.proofs.sim.read_items.Goals as goal

pub returns-in-Err-clause-fault : goal.returns-in-Err-clause-fault
returns-in-Err-clause-fault g c =
    of_records _ (g.S.Input.remaining c.args.schedule) (g.S.Input.lasts c.args.schedule) schedule_fault c.in-Err.error c.of_file.result c.of_file.ensures c.in-Err.ensures.lasts c.in-Err.ensures.first
