use Rattle.dataset.specs.FirstFault.{first_fault}
use Rattle.tpcc.proofs.FaultsOfSources.{of_records}
use Rattle.tpcc.proofs.script.read_header.Goals as goal

pub returns-in-Err-clause-fault : goal.returns-in-Err-clause-fault
returns-in-Err-clause-fault g c =
    of_records _ (g.D.Input.remaining c.args.data) (g.D.Input.lasts c.args.data) first_fault c.in-Err.error c.of_file.result c.of_file.ensures c.in-Err.ensures.lasts
    (λ text rows known csv few. c.in-Err.ensures.first text rows known csv)
