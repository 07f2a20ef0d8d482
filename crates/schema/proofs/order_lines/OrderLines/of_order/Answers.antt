use Rattle.std.proofs.Common.{true, ap, length, ◌∙◌, arith, refl}
use Rattle.std.specs.BTreeMap.Range.{entries_between}
use Rattle.std.specs.declared.ops.Bound.TheVariants.{Included}
use Rattle.rows.specs.Keys.{order_cmp}
use Rattle.schema.specs.Database.{rows_where, is_of_order}
use Rattle.schema.specs.OrderRows.{line_table}
use Rattle.schema.specs.PackedLines.{all_lines}
use Rattle.schema.proofs.PackedLines.{lines_between, few_between}
use Rattle.schema.proofs.OrderSpans.{one_order}
use Rattle.schema.proofs.order_lines.OrderLines.of_order.Goals as goal

pub returns-clause-rows : goal.returns-clause-rows
returns-clause-rows c =
    let orders = c.self.inside.orders.entries in
    let order = c.args.order in
    c.of.ensures ∙ ap all_lines (c.range.ensures.between c.new.ensures.exhausted
    ∙ ap (λ low. entries_between order_cmp (Included low) (Included c.new.result.end) orders) c.new.ensures.start ∙ ap (λ high. entries_between order_cmp (Included order) (Included high) orders) c.new.ensures.end)
    ∙ lines_between (Included order) (Included order) (λ _. true) (is_of_order order) orders c.self.invariant.ordered c.self.invariant.numbered (λ _ _ _. refl) (λ key _. one_order order key)
    ∙ ap (λ l. rows_where (is_of_order order) (line_table l)) c.self.view_is

pub returns-clause-fits : goal.returns-clause-fits
returns-clause-fits c =
    omega (arith, ap length (c.of.ensures ∙ ap all_lines (c.range.ensures.between c.new.ensures.exhausted)), few_between (Included c.new.result.start) (Included c.new.result.end) c.self.inside.orders.entries, c.self.invariant.many, c.self.invariant.fits)
