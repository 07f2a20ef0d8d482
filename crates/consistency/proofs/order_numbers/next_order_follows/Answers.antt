use Rattle.std.proofs.Common.{rules, tests, ◌≡◌, ◌==◌, ◌-◌, MatchOption, IsTrue, max, sym, ap, ◌∙◌}
use Rattle.std.specs.List.{reduce}
use Rattle.schema.specs.Consistency.{numbers}
use Rattle.consistency.proofs.OrderNumbersGreatest.{next_rule, next_fails}
use Rattle.consistency.proofs.order_numbers.next_order_follows.Goals as goal

pub returns-then-unwrap_or-last : goal.returns-then-unwrap_or-last
returns-then-unwrap_or-last c =
    let t = c.args.tables.now in
    let home = c.args.home in
    let found : MatchOption c.greatest_number-new_order.result (IsTrue c.is_none_or.result) (λ n. c.is_none_or.result ≡ (n == c.get.result - 1)) = search (rules, tests) in
    next_rule t home c.in-Some.district.now c.in-Some.ensures c.get.result c.get.ensures.value c.get.ensures.low
    c.greatest_number-order.result (c.greatest_number-order.ensures ∙ ap (λ l. reduce max (numbers l)) c.orders_of.ensures.rows)
    c.greatest_number-new_order.result (c.greatest_number-new_order.ensures ∙ ap (λ l. reduce max (numbers l)) c.new_orders_of.ensures.rows)
    (sym c.unwrap_or.ensures ∙ c.if-unwrap_or-last.true) c.is_none_or.result found

pub returns-else-unwrap_or-last : goal.returns-else-unwrap_or-last
returns-else-unwrap_or-last c =
    next_fails c.args.tables.now c.args.home c.in-Some.district.now c.in-Some.ensures c.get.result c.get.ensures.value c.get.ensures.low
    c.greatest_number-order.result (c.greatest_number-order.ensures ∙ ap (λ l. reduce max (numbers l)) c.orders_of.ensures.rows)
    c.unwrap_or.result c.unwrap_or.ensures c.if-unwrap_or-last.false
