use Rattle.std.proofs.Common.{◌∷◌, [], List, map, ap, sym, subst, ◌∙◌}
use Rattle.std.proofs.lemmas.List.{map-append}
use Rattle.schema.specs.Entries.{entry}
use Rattle.files.proofs.Sent.{on_any_err}
use Rattle.dataset.specs.Records.{row_records}
use Rattle.dataset.specs.Writing.{Puts}
use Rattle.dataset.proofs.EntriesGiven.{given-next, given-all}
use Rattle.dataset.proofs.Written.{puts-next, puts-none, stops-next}
use Rattle.dataset.proofs.writer.write_ordered.Goals as goal

pub loop-key-init : goal.loop-key-init
loop-key-init g c = puts-none (g.W.Write.contents c.args.sink.now) c.args.writer.now.text

pub loop-key-preserved : goal.loop-key-preserved
loop-key-preserved g c =
    let contents = g.W.Write.contents in
    let fields = g.T.Recorded.fields in
    let key = c.in-Some.key in
    let row = c.in-Some.row in
    let yielded = c.loop-key.yielded in
    let after = contents c.write_row.new.sink in
    let new = c.write_row.new.writer.text in
    let puts : List _ → Type 0 = λ pairs. Puts (contents c.args.sink.now) after c.args.writer.now.text new (row_records fields pairs) in
    subst puts (sym (map-append entry yielded ((key, row) ∷ []))) (puts-next (λ e. fields e.0 e.1) (map entry yielded) c.loop-key.invariant (key, row.now) c.in_ok-write_row.ensures.written)

pub returns-in_err-write_row-clause-begun : goal.returns-in_err-write_row-clause-begun
returns-in_err-write_row-clause-begun g c left gives =
    let contents = g.W.Write.contents in
    let fields = g.T.Recorded.fields in
    let key = c.in-Some.key in
    let row = c.in-Some.row in
    let yielded = c.loop-key.yielded in
    let rest = c.next.new.self in
    on_any_err c.from_residual.result
    (stops-next (λ e. fields e.0 e.1) (map entry yielded) c.loop-key.invariant (key, row.now) (left rest)
    (ap left (sym c.into_iter-key-iterator.ensures.into_iter_gives) ∙ given-next left gives c.into_iter-key-iterator.result yielded c.loop-key.key-iterator c.loop-key.yielded_by (key, row) rest c.in-Some.ensures.steps)
    c.in_err-write_row.ensures.begun)

pub returns-clause-written : goal.returns-clause-written
returns-clause-written g c left gives =
    let contents = g.W.Write.contents in
    let fields = g.T.Recorded.fields in
    let puts : List _ → Type 0 = λ pairs. Puts (contents c.args.sink.now) (contents c.loop-key.sink) c.args.writer.now.text c.loop-key.writer.text (row_records fields pairs) in
    subst puts (sym (ap left (sym c.into_iter-key-iterator.ensures.into_iter_gives) ∙ given-all left gives c.into_iter-key-iterator.result c.loop-key.yielded c.loop-key.key-iterator c.next.new.self c.loop-key.yielded_by c.in-None.ensures.steps)) c.loop-key.invariant
