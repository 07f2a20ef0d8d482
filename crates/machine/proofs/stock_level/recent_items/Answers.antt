use Rattle.std.proofs.Common.{◌≡◌, ◌++◌, ℕ, ◌-◌, List, length, map, sym, ap, ◌∙◌, arith}
use Rattle.std.proofs.lemmas.List.{append-nil, length-map}
use Rattle.rows.specs.declared.keys.OrderLineKey.{OrderLineKey}
use Rattle.rows.specs.declared.records.OrderLine.{OrderLine}
use Rattle.schema.specs.Database.{rows_where}
use Rattle.schema.specs.OrderRows.{is_in_span}
use Rattle.machine.specs.StockLevel as spec
use Rattle.machine.proofs.RecentLines.{few_lines}
use Rattle.machine.proofs.stock_level.recent_items.Goals as goal

abbrev items_of : List (OrderLineKey × OrderLine) → List ℕ
items_of rows = map (λ line. line.1.i_id) rows

pub returns-clause-few : goal.returns-clause-few
returns-clause-few g c =
    let t = g.T.Rows.tables c.args.rows.now in
    let all : c.loop-row.items.items ≡ spec.recent_items t c.args.home c.args.next =
    sym (append-nil c.loop-row.items.items) ∙ ap (λ rows. c.loop-row.items.items ++ items_of rows) (sym c.in-None.ensures.steps.0) ∙ c.loop-row.invariant in
    let many = ap length all ∙ length-map (rows_where (is_in_span c.args.home (c.args.next - 20) c.args.next) t.lines) (λ (line : OrderLineKey × OrderLine). line.1.i_id) in
    let few = few_lines t c.lines_of_span-row-items.ensures.numbered c.args.home c.args.next in
    omega (arith, many, few)
