use Rattle.std.proofs.Common.{◌+◌, ◌≤◌, List, drop, length, take, sym, subst}
use Rattle.std.specs.List.{zip}
use Rattle.files.proofs.Sent.{on_any_err}
use Rattle.dataset.specs.Records.{row_records}
use Rattle.dataset.specs.Writing.{Puts}
use Rattle.dataset.proofs.Lists.{split-zip, take-zip, take-zip_all}
use Rattle.dataset.proofs.Written.{puts-next, puts-none, stops-next}
use Rattle.dataset.proofs.writer.write_dense.Goals as goal

pub loop-place-init : goal.loop-place-init
loop-place-init g c = puts-none (g.W.Write.contents c.args.sink.now) c.args.writer.now.text

pub loop-place-preserved : goal.loop-place-preserved
loop-place-preserved g c =
    let contents = g.W.Write.contents in
    let fields = g.T.Recorded.fields in
    let keys = g.T.Dense.keys c.args.scale in
    let rows = c.args.rows.now in
    let i = c.loop-place.place in
    let key = c.key_at.result in
    let row = c.index-rows-place.result in
    let before = contents c.args.sink.now in
    let old = c.args.writer.now.text in
    let after = contents c.write_row.new.sink in
    let new = c.write_row.new.writer.text in
    let puts : List _ → Type 0 = λ pairs. Puts before after old new (row_records fields pairs) in
    subst puts (sym (take-zip keys rows i key row c.key_at.ensures c.loop-place-test.true c.index-rows-place.is))
    (puts-next (λ e. fields e.0 e.1) (take i (zip keys rows)) c.loop-place.invariant (key, row) c.in_ok-write_row.ensures.written)

pub returns-in_err-write_row-clause-begun : goal.returns-in_err-write_row-clause-begun
returns-in_err-write_row-clause-begun g c =
    let contents = g.W.Write.contents in
    let fields = g.T.Recorded.fields in
    let keys = g.T.Dense.keys c.args.scale in
    let rows = c.args.rows.now in
    let i = c.loop-place.place in
    let key = c.key_at.result in
    let row = c.index-rows-place.result in
    on_any_err c.from_residual.result
    (stops-next (λ e. fields e.0 e.1) (take i (zip keys rows)) c.loop-place.invariant (key, row) (drop (i + 1) (zip keys rows))
    (split-zip keys rows i key row c.key_at.ensures c.loop-place-test.true c.index-rows-place.is)
    c.in_err-write_row.ensures.begun)

pub returns-clause-written : goal.returns-clause-written
returns-clause-written g c =
    let contents = g.W.Write.contents in
    let fields = g.T.Recorded.fields in
    let keys = g.T.Dense.keys c.args.scale in
    let rows = c.args.rows.now in
    let i = c.loop-place.place in
    let done : length rows ≤ i = c.loop-place-test.false in
    let puts : List _ → Type 0 = λ pairs. Puts (contents c.args.sink.now) (contents c.loop-place.sink) c.args.writer.now.text c.loop-place.writer.text (row_records fields pairs) in
    subst puts (take-zip_all keys rows i done) c.loop-place.invariant
