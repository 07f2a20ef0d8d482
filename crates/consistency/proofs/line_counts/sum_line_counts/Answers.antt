use Rattle.std.proofs.Common.{◌≡◌, List, ◌*◌, ◌<◌, ◌≤◌, length, map, sum, sym, ap, ◌∙◌, arith}
use Rattle.std.proofs.lemmas.Simd.{map-map}
use Rattle.std.proofs.lemmas.Map.Iter.{iter_turn, iter_end}
use Rattle.rows.specs.declared.keys.OrderKey.{OrderKey}
use Rattle.rows.specs.declared.records.Order.{Order}
use Rattle.rows.specs.declared.limits.TheConstants.{LAST_LINE}
use Rattle.schema.specs.Entries.{entry}
use Rattle.schema.specs.Consistency.{orders_of}
use Rattle.consistency.proofs.line_counts.sum_line_counts.Goals as goal

pub overflow_add-lines : goal.overflow_add-lines
overflow_add-lines c =
    let orders = orders_of c.args.tables.now c.args.home in
    let start : c.into_iter-order-iterator.result ≡ orders = c.into_iter-order-iterator.ensures.into_iter_gives ∙ c.orders_of-order-items.ensures.rows in
    let turn = iter_turn entry orders c.loop-order.yielded _ c.loop-order.order-iterator c.next.new.self c.next.result start c.loop-order.yielded_by (c.in-Some.field-0-0, c.in-Some.order) c.in-Some.is c.next.ensures.steps in
    let few : length orders ≤ 9999999 = omega (arith, c.orders_of-order-items.ensures.few, ap length c.orders_of-order-items.ensures.rows) in
    let within : length c.loop-order.yielded < length orders = turn.0 in
    let small : c.loop-order.lines ≤ LAST_LINE * length c.loop-order.yielded = c.loop-order.invariant.1 in
    let more : c.get.result ≤ LAST_LINE = omega (arith, c.get.ensures.value, c.get.ensures.high) in
    omega arith

pub returns : goal.returns
returns c =
    let orders = orders_of c.args.tables.now c.args.home in
    let start : c.into_iter-order-iterator.result ≡ orders = c.into_iter-order-iterator.ensures.into_iter_gives ∙ c.orders_of-order-items.ensures.rows in
    let end = iter_end entry orders c.loop-order.yielded _ c.loop-order.order-iterator c.next.new.self c.next.result start c.loop-order.yielded_by c.in-None.is c.next.ensures.steps in
    c.loop-order.invariant.0
    ∙ ap sum (sym (map-map (λ (order : OrderKey × Order). order.1.ol_cnt) entry c.loop-order.yielded))
    ∙ ap (λ (l : List (OrderKey × Order)). sum (map (λ order. order.1.ol_cnt) l)) end.0
