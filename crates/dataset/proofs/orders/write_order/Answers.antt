use Rattle.std.proofs.Common.{◌∷◌, []}
use Rattle.std.proofs.lemmas.Result.{on_ok_weaker, on_err_weaker}
use Rattle.files.proofs.Sent.{on_any_err}
use Rattle.dataset.specs.Records.{order_record}
use Rattle.dataset.proofs.Written.{puts-one, stops-none, stops-one}
use Rattle.dataset.proofs.orders.write_order.Goals as goal

pub returns-in_err-put-clause-begun : goal.returns-in_err-put-clause-begun
returns-in_err-put-clause-begun g c =
    on_any_err c.from_residual.result (stops-none (g.W.Write.contents c.args.sink.now) c.args.writer.now.text (order_record c.args.key c.args.row.now c.args.lines ∷ []))

pub returns-clause-written : goal.returns-clause-written
returns-clause-written g c =
    let contents = g.W.Write.contents in
    on_ok_weaker c.write.result
    (puts-one (contents c.args.sink.now) (contents c.write.new.sink) c.args.writer.now.text (order_record c.args.key c.args.row.now c.args.lines) c.clear.new.self c.put.new.out c.clear.ensures c.in_ok-put.ensures c.write.new.self.text)
    c.write.ensures.sent

pub returns-clause-begun : goal.returns-clause-begun
returns-clause-begun g c =
    let contents = g.W.Write.contents in
    on_err_weaker c.write.result
    (stops-one (contents c.args.sink.now) (contents c.write.new.sink) c.args.writer.now.text (order_record c.args.key c.args.row.now c.args.lines) c.clear.new.self c.put.new.out c.clear.ensures c.in_ok-put.ensures)
    c.write.ensures.begun
