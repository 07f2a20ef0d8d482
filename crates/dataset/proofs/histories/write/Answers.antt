use Rattle.std.proofs.Common.{◌≡◌, ◌+◌, ◌≤◌, ◌++◌, ◌∷◌, [], List, drop, length, map, take, ap, sym, subst, ◌∙◌}
use Rattle.std.specs.List.{zip}
use Rattle.std.proofs.lemmas.List.{append-nil}
use Rattle.std.proofs.lemmas.List.Concat.{flat_map-append}
use Rattle.rows.specs.declared.keys.DistrictKey.{DistrictKey}
use Rattle.rows.specs.declared.records.History.{History}
use Rattle.schema.specs.Scale.{district_keys}
use Rattle.files.proofs.Sent.{on_any_err}
use Rattle.dataset.specs.Records.{history_fields, payment_records}
use Rattle.dataset.specs.Writing.{Puts, StopsIn}
use Rattle.dataset.proofs.Lists.{split-zip, take-zip, take-zip_all}
use Rattle.dataset.proofs.Written.{puts-none, puts-then, stops-in}
use Rattle.dataset.proofs.histories.write.Goals as goal

pub loop-place-init : goal.loop-place-init
loop-place-init g c = puts-none (g.W.Write.contents c.args.sink.now) c.args.writer.now.text

pub loop-place-preserved : goal.loop-place-preserved
loop-place-preserved g c =
    let contents = g.W.Write.contents in
    let keys = district_keys c.args.scale in
    let lists = c.args.lists.now in
    let i = c.loop-place.place in
    let home = c.key_at.result in
    let list = c.index-lists-place.result in
    let rows = take i (zip keys lists) in
    let each = λ (e : DistrictKey × List History). map (history_fields e.0) e.1 in
    let before = contents c.args.sink.now in
    let mid = contents c.loop-place.sink in
    let after = contents c.write_list.new.sink in
    let old = c.args.writer.now.text in
    let left = c.loop-place.writer.text in
    let new = c.write_list.new.writer.text in
    let one : payment_records (take (i + 1) (zip keys lists)) ≡ payment_records rows ++ map (history_fields home) list =
    ap payment_records (take-zip keys lists i home list c.key_at.ensures c.loop-place-test.true c.index-lists-place.is)
    ∙ flat_map-append each rows ((home, list) ∷ []) ∙ ap (λ l. payment_records rows ++ l) (append-nil (map (history_fields home) list)) in
    let more : List History → Type 0 = λ l. Puts mid after left new (map (history_fields home) l) in
    subst (Puts before after old new) (sym one)
    (puts-then before mid after old left (payment_records rows) c.loop-place.invariant new (map (history_fields home) list)
    (subst more c.rows.ensures c.in_ok-write_list.ensures.written))

pub returns-in_err-write_list-clause-begun : goal.returns-in_err-write_list-clause-begun
returns-in_err-write_list-clause-begun g c =
    let contents = g.W.Write.contents in
    let keys = district_keys c.args.scale in
    let lists = c.args.lists.now in
    let i = c.loop-place.place in
    let home = c.key_at.result in
    let list = c.index-lists-place.result in
    let rows = take i (zip keys lists) in
    let rest = drop (i + 1) (zip keys lists) in
    let each = λ (e : DistrictKey × List History). map (history_fields e.0) e.1 in
    let mid = contents c.loop-place.sink in
    let after = contents c.write_list.new.sink in
    let left = c.loop-place.writer.text in
    let split : payment_records (zip keys lists) ≡ payment_records rows ++ (map (history_fields home) list ++ payment_records rest) =
    ap payment_records (split-zip keys lists i home list c.key_at.ensures c.loop-place-test.true c.index-lists-place.is) ∙ flat_map-append each rows ((home, list) ∷ rest) in
    let stops : List History → Type 0 = λ l. StopsIn mid after left (map (history_fields home) l) in
    on_any_err c.from_residual.result
    (stops-in (contents c.args.sink.now) mid after c.args.writer.now.text left (payment_records rows) c.loop-place.invariant
    (map (history_fields home) list) (payment_records rest) split
    (subst stops c.rows.ensures c.in_err-write_list.ensures.begun))

pub returns-clause-written : goal.returns-clause-written
returns-clause-written g c =
    let contents = g.W.Write.contents in
    let keys = district_keys c.args.scale in
    let lists = c.args.lists.now in
    let i = c.loop-place.place in
    let done : length lists ≤ i = c.loop-place-test.false in
    let puts : List (DistrictKey × List History) → Type 0 = λ rows. Puts (contents c.args.sink.now) (contents c.loop-place.sink) c.args.writer.now.text c.loop-place.writer.text (payment_records rows) in
    subst puts (take-zip_all keys lists i done) c.loop-place.invariant
