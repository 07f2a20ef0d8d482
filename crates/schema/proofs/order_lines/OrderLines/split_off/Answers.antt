use Rattle.std.proofs.Common.{nat_le, nat_lt, ap, ◌∙◌, arith}
use Rattle.std.specs.List.{filter}
use Rattle.schema.proofs.PackedLines.{later_lines_are, other_lines_are, parts_together, kept_later, kept_others}
use Rattle.schema.proofs.order_lines.OrderLines.split_off.Goals as goal

pub returns-clause-from : goal.returns-clause-from
returns-clause-from c =
    later_lines_are c.self.inside.orders.entries c.in_ok-orders.orders.entries c.split_off.new.self.entries c.self.inside.count c.self.invariant c.args.warehouse c.in_ok-orders.ensures.from c.in_ok-orders.ensures.below
    ∙ ap (filter (λ e. nat_le c.args.warehouse e.0.w_id)) c.self.view_is

pub returns-clause-below : goal.returns-clause-below
returns-clause-below c =
    other_lines_are c.self.inside.orders.entries c.in_ok-orders.orders.entries c.split_off.new.self.entries c.self.inside.count c.self.invariant c.args.warehouse c.in_ok-orders.ensures.from c.in_ok-orders.ensures.below
    ∙ ap (filter (λ e. nat_lt e.0.w_id c.args.warehouse)) c.self.view_is

pub count_lines-count-requires : goal.count_lines-count-requires
count_lines-count-requires c =
    let together = parts_together c.self.inside.orders.entries c.in_ok-orders.orders.entries c.split_off.new.self.entries c.self.inside.count c.self.invariant c.args.warehouse c.in_ok-orders.ensures.from c.in_ok-orders.ensures.below in
    omega (arith, together, c.self.invariant.fits)

pub overflow_sub-self : goal.overflow_sub-self
overflow_sub-self c =
    let together = parts_together c.self.inside.orders.entries c.in_ok-orders.orders.entries c.split_off.new.self.entries c.self.inside.count c.self.invariant c.args.warehouse c.in_ok-orders.ensures.from c.in_ok-orders.ensures.below in
    omega (arith, together, c.count_lines-count.ensures)

pub invariant_of-result : goal.invariant_of-result
invariant_of-result c =
    kept_later c.self.inside.orders.entries c.in_ok-orders.orders.entries c.split_off.new.self.entries c.self.inside.count c.self.invariant c.args.warehouse c.in_ok-orders.ensures.from c.in_ok-orders.ensures.below
    c.count_lines-count.result c.in_ok-orders.ensures.rest_ordered c.count_lines-count.ensures

pub invariant_of-self-2 : goal.invariant_of-self-2
invariant_of-self-2 c =
    kept_others c.self.inside.orders.entries c.in_ok-orders.orders.entries c.split_off.new.self.entries c.self.inside.count c.self.invariant c.args.warehouse c.in_ok-orders.ensures.from c.in_ok-orders.ensures.below
    c.count_lines-count.result c.in_ok-orders.ensures.ordered c.count_lines-count.ensures
