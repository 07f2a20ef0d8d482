use Rattle.std.proofs.Common.{ap}
use Rattle.std.proofs.lemmas.Result.{on_ok_weaker, on_err_weaker}
use Rattle.files.proofs.Sent.{on_any_err}
use Rattle.dataset.proofs.Written.{begun-last, begun-records, written-records}
use Rattle.dataset.proofs.writer.write.Goals as goal

pub returns-in_err-put_tables-clause-begun : goal.returns-in_err-put_tables-clause-begun
returns-in_err-put_tables-clause-begun g c =
    let contents = g.W.Write.contents in
    on_any_err c.from_residual.result
    (begun-records c.args.tables.now (contents c.args.sink.now) (contents c.put_tables.new.sink) c.new-writer.result.text (ap (λ w. w.text) c.new-writer.ensures) c.in_err-put_tables.ensures.begun)

pub returns-clause-written : goal.returns-clause-written
returns-clause-written g c =
    let contents = g.W.Write.contents in
    on_ok_weaker c.finish.result
    (written-records c.args.tables.now (contents c.args.sink.now) (contents c.put_tables.new.sink) c.new-writer.result.text (ap (λ w. w.text) c.new-writer.ensures)
    c.put_tables.new.writer.text c.in_ok-put_tables.ensures.written (contents c.finish.new.sink))
    c.finish.ensures.sent

pub returns-clause-begun : goal.returns-clause-begun
returns-clause-begun g c =
    let contents = g.W.Write.contents in
    on_err_weaker c.finish.result
    (begun-last c.args.tables.now (contents c.args.sink.now) (contents c.put_tables.new.sink) c.new-writer.result.text (ap (λ w. w.text) c.new-writer.ensures)
    c.put_tables.new.writer.text c.in_ok-put_tables.ensures.written (contents c.finish.new.sink))
    c.finish.ensures.begun
