use Rattle.std.proofs.Common.{true, ap, length, ◌∙◌, arith, refl}
use Rattle.std.specs.BTreeMap.Range.{entries_between}
use Rattle.std.specs.declared.ops.Bound.TheVariants.{Included, Excluded}
use Rattle.std.specs.Ordering.{is_gt}
use Rattle.rows.specs.Keys.{order_cmp}
use Rattle.schema.specs.Database.{rows_where}
use Rattle.schema.specs.OrderRows.{line_table, is_in_span}
use Rattle.schema.specs.PackedLines.{all_lines}
use Rattle.schema.proofs.PackedLines.{lines_between, few_between}
use Rattle.schema.proofs.OrderSpans.{order_of_number, span_between, span_forward}
use Rattle.schema.proofs.order_lines.OrderLines.in_span.Goals as goal

pub range-requires : goal.range-requires
range-requires c =
    ap (λ k. is_gt (order_cmp k c.order_key-2.result)) c.order_key.ensures ∙ ap (λ k. is_gt (order_cmp (order_of_number c.args.home c.args.from) k)) c.order_key-2.ensures
    ∙ span_forward c.args.home c.args.from c.max.result (omega arith)

pub returns-clause-rows : goal.returns-clause-rows
returns-clause-rows c =
    let orders = c.self.inside.orders.entries in
    let home = c.args.home in
    let past = c.max.result in
    c.of.ensures ∙ ap all_lines (c.range.ensures.between tt
    ∙ ap (λ low. entries_between order_cmp (Included low) (Excluded c.order_key-2.result) orders) c.order_key.ensures
    ∙ ap (λ high. entries_between order_cmp (Included (order_of_number home c.args.from)) (Excluded high) orders) c.order_key-2.ensures)
    ∙ lines_between (Included (order_of_number home c.args.from)) (Excluded (order_of_number home past)) (λ _. true) (is_in_span home c.args.from c.args.to) orders c.self.invariant.ordered c.self.invariant.numbered
    (λ _ _ _. refl) (λ key _. span_between home c.args.from c.args.to past key (omega arith))
    ∙ ap (λ l. rows_where (is_in_span home c.args.from c.args.to) (line_table l)) c.self.view_is

pub returns-clause-fits : goal.returns-clause-fits
returns-clause-fits c =
    omega (arith, ap length (c.of.ensures ∙ ap all_lines (c.range.ensures.between tt)), few_between (Included c.order_key.result) (Excluded c.order_key-2.result) c.self.inside.orders.entries, c.self.invariant.many, c.self.invariant.fits)
