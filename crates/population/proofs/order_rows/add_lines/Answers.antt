use Rattle.std.proofs.Common.{◌≡◌, ◌+◌, ◌∷◌, [], ◌++◌, ◌∙◌}
use Rattle.std.proofs.lemmas.List.Elements.{All-same, All-push}
use Rattle.rows.specs.declared.keys.OrderLineKey.{OrderLineKey}
use Rattle.rows.specs.declared.records.OrderLine.{OrderLine}
use Rattle.rows.specs.Keys.{line_cmp}
use Rattle.schema.proofs.KeyOrders.{lines_total}
use Rattle.population.specs.Append.{AreBefore}
use Rattle.schema.specs.OrderRows.{line_key}
use Rattle.population.specs.Rows.{IsOpeningLine}
use Rattle.population.proofs.Inserts.{insert_last, ordered_last}
use Rattle.population.proofs.Lines.{earlier_lines, one_line_more}
use Rattle.population.proofs.order_rows.add_lines.Goals as goal

pub loop-place-preserved : goal.loop-place-preserved
loop-place-preserved c =
    let order = c.args.order in
    let place = c.loop-place.place in
    let lines = c.loop-place.lines in
    let new = c.insert.new.self in
    let key = line_key order (place + 1) in
    let row = c.line.result in
    let P = λ (e : OrderLineKey × OrderLine). IsOpeningLine c.args.scale c.args.now e.0 e.1 in
    let before : AreBefore line_cmp key lines = earlier_lines order c.args.lines.now lines place c.requires.before c.loop-place.invariant.keys in
    let added : new ≡ lines ++ (key, row) ∷ [] = c.in_ok-insert.ensures.ok ∙ insert_last lines_total key row lines before in
    record {
      keys = one_line_more order c.args.lines.now lines new place row c.loop-place.invariant.keys added;
      rows = All-same P _ _ added (All-push P lines (key, row) c.loop-place.invariant.rows c.line.ensures);
      ordered = ordered_last line_cmp key row lines new before added c.loop-place.invariant.ordered;
    }
