use Rattle.std.proofs.Common.{sym, subst, IsTrue}
use Rattle.std.specs.FinMap as table
use Rattle.schema.specs.OrderRows.{line_table}
use Rattle.schema.proofs.PackedLines.{some_kept, kept_replaced, kept_one_less}
use Rattle.schema.proofs.order_lines.OrderLines.put_back.Goals as goal

pub overflow_sub-self : goal.overflow_sub-self
overflow_sub-self c =
    some_kept c.self.inside.orders.entries c.self.inside.count c.args.key c.self.invariant
    (subst (λ l. IsTrue (table.contains_key (line_table l) c.args.key)) (sym c.self.view_is) c.requires)

pub invariant_of-self : goal.invariant_of-self
invariant_of-self c =
    kept_replaced c.self.inside.orders.entries c.put_back.new.orders.entries c.self.inside.count c.self.invariant
    c.put_back.ensures.ordered c.put_back.ensures.numbered c.args.key c.in-Some.row c.put_back.ensures.rows
    (subst (λ l. IsTrue (table.contains_key (line_table l) c.args.key)) (sym c.self.view_is) c.requires)

pub invariant_of-self-in-None : goal.invariant_of-self-in-None
invariant_of-self-in-None c =
    kept_one_less c.self.inside.orders.entries c.put_back-in-None.new.orders.entries c.self.inside.count c.self.invariant
    c.put_back-in-None.ensures.ordered c.put_back-in-None.ensures.numbered c.args.key c.put_back-in-None.ensures.rows
    (subst (λ l. IsTrue (table.contains_key (line_table l) c.args.key)) (sym c.self.view_is) c.requires)
