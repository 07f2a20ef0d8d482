use Rattle.std.proofs.Common.{ap, subst, length, ◌∙◌}
use Rattle.std.specs.List.Sorted.{IsStrictlySortedBy}
use Rattle.std.specs.Map.{keys_of}
use Rattle.rows.specs.Keys.{line_cmp}
use Rattle.schema.proofs.PackedLines.{lines_sorted}
use Rattle.schema.proofs.order_lines.OrderLines.len.Goals as goal

pub returns-clause-len : goal.returns-clause-len
returns-clause-len c = c.self.invariant.many ∙ ap length c.self.view_is

pub returns-clause-ordered : goal.returns-clause-ordered
returns-clause-ordered c =
    subst (λ l. IsStrictlySortedBy line_cmp (keys_of l)) c.self.view_is (lines_sorted c.self.inside.orders.entries c.self.invariant.ordered c.self.invariant.numbered)
