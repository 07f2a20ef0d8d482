use Rattle.std.proofs.Common.{ap, subst, length, ◌∙◌, arith}
use Rattle.std.specs.List.Sorted.{IsStrictlySortedBy}
use Rattle.std.specs.Map.{keys_of}
use Rattle.rows.specs.Keys.{order_cmp, line_cmp}
use Rattle.schema.specs.PackedLines.{all_lines}
use Rattle.schema.proofs.OrderedParts.{every_entry}
use Rattle.schema.proofs.PackedLines.{lines_sorted}
use Rattle.schema.proofs.order_lines.OrderLines.entries.Goals as goal

pub returns-clause-rows : goal.returns-clause-rows
returns-clause-rows c = c.of.ensures ∙ ap all_lines (c.range.ensures.between tt ∙ every_entry order_cmp c.self.inside.orders.entries) ∙ c.self.view_is

pub returns-clause-fits : goal.returns-clause-fits
returns-clause-fits c =
    let all = c.of.ensures ∙ ap all_lines (c.range.ensures.between tt ∙ every_entry order_cmp c.self.inside.orders.entries) in
    omega (arith, ap length all, c.self.invariant.many, c.self.invariant.fits)

pub returns-clause-ordered : goal.returns-clause-ordered
returns-clause-ordered c =
    subst (λ l. IsStrictlySortedBy line_cmp (keys_of l)) c.self.view_is (lines_sorted c.self.inside.orders.entries c.self.invariant.ordered c.self.invariant.numbered)
