use Rattle.std.proofs.Common.{◌≡◌, [], rules, sym, ap, ◌∙◌}
use Rattle.std.proofs.lemmas.List.{nil_from_length}
use Rattle.std.specs.FinMap.{get, get-empty}
use Rattle.std.specs.Option.{option_or}
use Rattle.rows.specs.Keys.{line_cmp}
use Rattle.schema.specs.OrderRows.{line_table}
use Rattle.schema.specs.PackedLines.{all_lines}
use Rattle.schema.proofs.PackedLines.{one_more_order}
use Rattle.schema.proofs.order_lines.OrderLines.append.Goals as goal

pub loop-order-preserved : goal.loop-order-preserved
loop-order-preserved c = record {
  ordered = c.in-Some.ensures.ordered;
  moved = λ q.
      one_more_order c.in-Some.order c.in-Some.lines c.pop_first.new.self.entries c.loop-order.orders.entries (line_table c.loop-order.self) (line_table c.take.new.self)
      c.in-Some.ensures.removal c.loop-order.invariant.ordered c.in_ok-take.ensures q
      ∙ c.loop-order.invariant.moved q;
}

pub returns : goal.returns
returns c = λ key.
    let none : c.loop-order.orders.entries ≡ [] = nil_from_length c.loop-order.orders.entries (search (rules, c.in_default.ensures.variant)) in
    sym (ap (λ r. option_or r (get (line_table c.loop-order.self) key)) (ap (λ es. get (line_table (all_lines es)) key) none ∙ get-empty line_cmp key))
    ∙ c.loop-order.invariant.moved key
