use Rattle.std.proofs.Common.{◌+◌, List, drop, map, take, sym, subst}
use Rattle.rows.specs.declared.records.History.{History}
use Rattle.files.proofs.Sent.{on_any_err}
use Rattle.dataset.specs.Records.{history_fields}
use Rattle.dataset.specs.Writing.{Puts}
use Rattle.dataset.proofs.Lists.{split-next, take-next}
use Rattle.dataset.proofs.Written.{puts-next, puts-none, stops-next}
use Rattle.dataset.proofs.histories.write_list.Goals as goal

pub loop-payment-init : goal.loop-payment-init
loop-payment-init g c = puts-none (g.W.Write.contents c.args.sink.now) c.args.writer.now.text

pub loop-payment-preserved : goal.loop-payment-preserved
loop-payment-preserved g c =
    let contents = g.W.Write.contents in
    let payments = c.args.payments.now in
    let i = c.loop-payment.payment-index in
    let row = c.payment-item.result in
    let fields = history_fields c.args.home in
    let after = contents c.write_row.new.sink in
    let new = c.write_row.new.writer.text in
    let puts : List History → Type 0 = λ l. Puts (contents c.args.sink.now) after c.args.writer.now.text new (map fields l) in
    subst puts (sym (take-next payments i row c.loop-payment-test.true c.payment-item.is))
    (puts-next fields (take i payments) c.loop-payment.invariant row c.in_ok-write_row.ensures.written)

pub returns-in_err-write_row-clause-begun : goal.returns-in_err-write_row-clause-begun
returns-in_err-write_row-clause-begun g c =
    let contents = g.W.Write.contents in
    let payments = c.args.payments.now in
    let i = c.loop-payment.payment-index in
    let row = c.payment-item.result in
    let fields = history_fields c.args.home in
    on_any_err c.from_residual.result
    (stops-next fields (take i payments) c.loop-payment.invariant row (drop (i + 1) payments)
    (split-next payments i row c.loop-payment-test.true c.payment-item.is)
    c.in_err-write_row.ensures.begun)
