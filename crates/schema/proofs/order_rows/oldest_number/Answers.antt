use Rattle.std.proofs.Common.{sym, ap, ◌∙◌}
use Rattle.std.specs.Map.Iter.{deref_pair}
use Rattle.std.proofs.lemmas.Map.Iter.{rest_more, rest_all}
use Rattle.schema.proofs.OrderedParts.{orders_part}
use Rattle.schema.proofs.OrderSpans.{first_number, oldest_first}
use Rattle.schema.proofs.order_rows.oldest_number.Goals as goal

pub returns-in_err-key : goal.returns-in_err-key
returns-in_err-key c =
    let part = c.range-rows.ensures.between c.new.ensures.exhausted
    ∙ orders_part c.args.home _ _ c.new.ensures.start c.new.ensures.end c.args.new_orders.now.entries c.range-rows.ensures.ordered c.requires in
    let none = rest_all deref_pair _ _ _ c.in_err-key.was c.next.ensures.steps in
    c.from_residual.ensures ∙ ap first_number (sym none ∙ part) ∙ oldest_first c.args.home c.args.new_orders.now.entries c.range-rows.ensures.ordered

pub returns : goal.returns
returns c =
    let part = c.range-rows.ensures.between c.new.ensures.exhausted
    ∙ orders_part c.args.home _ _ c.new.ensures.start c.new.ensures.end c.args.new_orders.now.entries c.range-rows.ensures.ordered c.requires in
    let some = rest_more deref_pair _ _ _ _ c.in_ok-key.was c.next.ensures.steps in
    ap first_number (sym some ∙ part) ∙ oldest_first c.args.home c.args.new_orders.now.entries c.range-rows.ensures.ordered
