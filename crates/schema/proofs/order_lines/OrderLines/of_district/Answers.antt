use Rattle.std.proofs.Common.{sym, ap, subst, length, ◌∙◌, arith}
use Rattle.std.specs.BTreeMap.Range.{entries_between}
use Rattle.std.specs.declared.ops.Bound.TheVariants.{Included}
use Rattle.rows.specs.Keys.{order_cmp, order_of_line}
use Rattle.schema.specs.Database.{rows_where, is_of_district, is_order_id}
use Rattle.schema.specs.OrderRows.{line_table}
use Rattle.schema.specs.PackedLines.{all_lines}
use Rattle.schema.proofs.PackedLines.{lines_between, few_between}
use Rattle.rows.specs.declared.keys.OrderLineKey.{OrderLineKey}
use Rattle.schema.specs.EachRow.{EachRow}
use Rattle.schema.proofs.OrderedParts.{order_between, small_order, first_order, last_order}
use Rattle.schema.proofs.order_lines.OrderLines.of_district.Goals as goal

pub returns-clause-rows : goal.returns-clause-rows
returns-clause-rows c =
    let orders = c.self.inside.orders.entries in
    let home = c.args.home in
    c.of.ensures ∙ ap all_lines (c.range.ensures.between c.new.ensures.exhausted
    ∙ ap (λ low. entries_between order_cmp (Included low) (Included c.new.result.end) orders) (c.new.ensures.start ∙ c.order_key.ensures)
    ∙ ap (λ high. entries_between order_cmp (Included (first_order home)) (Included high) orders) (c.new.ensures.end ∙ c.order_key-2.ensures))
    ∙ lines_between (Included (first_order home)) (Included (last_order home)) (λ key. is_order_id key.o_id) (λ key. is_of_district home (order_of_line key)) orders c.self.invariant.ordered c.self.invariant.numbered
    (subst (λ l. EachRow (λ (key : OrderLineKey) _. is_order_id key.o_id) (line_table l)) (sym c.self.view_is) c.requires)
    (λ key h. order_between home (order_of_line key) (small_order key.o_id h))
    ∙ ap (λ l. rows_where (λ key. is_of_district home (order_of_line key)) (line_table l)) c.self.view_is

pub returns-clause-fits : goal.returns-clause-fits
returns-clause-fits c =
    omega (arith, ap length (c.of.ensures ∙ ap all_lines (c.range.ensures.between c.new.ensures.exhausted)), few_between (Included c.new.result.start) (Included c.new.result.end) c.self.inside.orders.entries, c.self.invariant.many, c.self.invariant.fits)
