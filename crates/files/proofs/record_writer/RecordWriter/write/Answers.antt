use Rattle.files.proofs.Sent.{begins_none, on_any_err}
use Rattle.files.proofs.record_writer.RecordWriter.write.Goals as goal

pub returns-in_err-add-clause-begun : goal.returns-in_err-add-clause-begun
returns-in_err-add-clause-begun g c = on_any_err c.from_residual.result (begins_none _ _)
