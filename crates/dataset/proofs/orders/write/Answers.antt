use Rattle.std.proofs.Common.{◌∷◌, [], List, map, sym, subst, ◌∙◌}
use Rattle.std.proofs.lemmas.List.{map-append}
use Rattle.rows.specs.declared.keys.OrderKey.{OrderKey}
use Rattle.rows.specs.declared.keys.OrderLineKey.{OrderLineKey}
use Rattle.rows.specs.declared.records.Order.{Order}
use Rattle.rows.specs.declared.records.OrderLine.{OrderLine}
use Rattle.schema.specs.Database.{rows_where, is_of_order}
use Rattle.schema.specs.Entries.{entry}
use Rattle.schema.specs.OrderRows.{line_table}
use Rattle.files.proofs.Sent.{on_any_err}
use Rattle.dataset.specs.Records.{Field, order_record}
use Rattle.dataset.specs.Writing.{Puts, StopsIn, records_with}
use Rattle.dataset.proofs.EntriesGiven.{given-next, given-all}
use Rattle.dataset.proofs.Written.{puts-next, puts-none, stops-next}
use Rattle.dataset.proofs.orders.write.Goals as goal

-- the record of an order with those of the lines that are its own
record_of : List (OrderLineKey × OrderLine) → OrderKey × Order → List Field
record_of lines e = order_record e.0 e.1 (rows_where (is_of_order e.0) (line_table lines))

pub loop-key-init : goal.loop-key-init
loop-key-init g c = puts-none (g.W.Write.contents c.args.sink.now) c.args.writer.now.text

pub loop-key-preserved : goal.loop-key-preserved
unfolding record_of
loop-key-preserved g c =
    let contents = g.W.Write.contents in
    let key = c.in-Some.key in
    let row = c.in-Some.row in
    let yielded = c.loop-key.yielded in
    let after = contents c.write_order.new.sink in
    let new = c.write_order.new.writer.text in
    let puts : List (OrderKey × Order) → Type 0 = λ pairs. Puts (contents c.args.sink.now) after c.args.writer.now.text new (records_with c.args.lines.now pairs) in
    let one = subst (λ (lines : List (OrderLineKey × OrderLine)). Puts (contents c.loop-key.sink) after c.loop-key.writer.text new (order_record key row.now lines ∷ []))
    c.of_order.ensures.rows c.in_ok-write_order.ensures.written in
    subst puts (sym (map-append entry yielded ((key, row) ∷ []))) (puts-next (record_of c.args.lines.now) (map entry yielded) c.loop-key.invariant (key, row.now) one)

pub returns-in_err-write_order-clause-begun : goal.returns-in_err-write_order-clause-begun
unfolding record_of
returns-in_err-write_order-clause-begun g c =
    let contents = g.W.Write.contents in
    let key = c.in-Some.key in
    let row = c.in-Some.row in
    let yielded = c.loop-key.yielded in
    let rest = c.next.new.self in
    let one = subst (λ (lines : List (OrderLineKey × OrderLine)). StopsIn (contents c.loop-key.sink) (contents c.write_order.new.sink) c.loop-key.writer.text (order_record key row.now lines ∷ []))
    c.of_order.ensures.rows c.in_err-write_order.ensures.begun in
    on_any_err c.from_residual.result
    (stops-next (record_of c.args.lines.now) (map entry yielded) c.loop-key.invariant (key, row.now) rest
    (sym c.into_iter-key-iterator.ensures.into_iter_gives ∙ given-next (λ s. s) (λ s r t h. h) c.into_iter-key-iterator.result yielded c.loop-key.key-iterator c.loop-key.yielded_by (key, row) rest c.in-Some.ensures.steps)
    one)

pub returns-clause-written : goal.returns-clause-written
returns-clause-written g c =
    let contents = g.W.Write.contents in
    let puts : List (OrderKey × Order) → Type 0 = λ pairs. Puts (contents c.args.sink.now) (contents c.loop-key.sink) c.args.writer.now.text c.loop-key.writer.text (records_with c.args.lines.now pairs) in
    subst puts (sym (sym c.into_iter-key-iterator.ensures.into_iter_gives ∙ given-all (λ s. s) (λ s r t h. h) c.into_iter-key-iterator.result c.loop-key.yielded c.loop-key.key-iterator c.next.new.self c.loop-key.yielded_by c.in-None.ensures.steps)) c.loop-key.invariant
