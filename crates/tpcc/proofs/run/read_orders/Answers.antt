use Rattle.terminals.specs.FirstFault.{moves_fault}
use Rattle.tpcc.proofs.FaultsOfSources.{of_moves, of_records}
use Rattle.tpcc.proofs.run.read_orders.Goals as goal

pub returns-in-Err-clause-fault : goal.returns-in-Err-clause-fault
returns-in-Err-clause-fault g c =
    let source = c.in-Some.source in
    let path = c.in-Some-path.path in
    of_moves g.S.Input.remaining g.S.Input.lasts c.args.path c.args.source path source c.of_file.result c.in-Some-path.is c.in-Some.is
    (of_records path (g.S.Input.remaining source) (g.S.Input.lasts source) moves_fault c.in-Err.fault c.of_file.result c.of_file.ensures c.in-Err.ensures.lasts c.in-Err.ensures.first)
