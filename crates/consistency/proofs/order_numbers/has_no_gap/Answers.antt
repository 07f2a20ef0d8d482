use Rattle.std.proofs.Common.{◌≡◌, length, max, min, sym, ap, ◌∙◌}
use Rattle.std.specs.List.{reduce}
use Rattle.std.proofs.lemmas.Iterator.Consumers.{count_from_yields_List, YieldsList-from_rest}
use Rattle.std.proofs.lemmas.List.{length-map}
use Rattle.schema.specs.Consistency.{numbers, new_orders_of}
use Rattle.consistency.proofs.OrderNumbersGreatest.{gap_rule}
use Rattle.consistency.proofs.order_numbers.has_no_gap.Goals as goal

pub returns-in-Some-Some : goal.returns-in-Some-Some
returns-in-Some-Some c =
    let rows = new_orders_of c.args.tables.now c.args.home in
    let counted : c.count-count.result ≡ length rows = count_from_yields_List c.new_orders_of.result c.count-count.result c.count-count.ensures.ran (YieldsList-from_rest _ c.new_orders_of.ensures.rows) in
    gap_rule (numbers rows) c.in-Some-Some.greatest c.in-Some-Some.least c.count-count.result
    (sym c.in-Some-Some.is-0 ∙ c.greatest_number-greatest.ensures ∙ ap (λ l. reduce max (numbers l)) c.new_orders_of-2.ensures.rows)
    (sym c.in-Some-Some.is-1 ∙ c.least_number-least.ensures ∙ ap (λ l. reduce min (numbers l)) c.new_orders_of-3.ensures.rows)
    (counted ∙ sym (length-map rows (λ row. row.0.o_id)))
