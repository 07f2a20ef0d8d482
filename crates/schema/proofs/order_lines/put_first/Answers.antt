use Rattle.std.proofs.Common.{◌≡◌, List, [], ℕ, Option, Some, sym, ap, subst, ◌∙◌}
use Rattle.std.specs.BTreeMap.{Updates}
use Rattle.std.specs.FinMap as table
use Rattle.std.specs.Option.{unwrap_or}
use Rattle.std.specs.Ordering.{nat_cmp}
use Rattle.rows.specs.declared.records.OrderLine.{OrderLine}
use Rattle.rows.specs.Keys.{order_cmp, order_of_line}
use Rattle.schema.specs.PackedLines.{numbered, AreNumbered}
use Rattle.schema.proofs.PackedLines.{own, read_own, line_put, insert_numbered}
use Rattle.schema.proofs.order_lines.put_first.Goals as goal

pub returns-in-Ok-clause-was : goal.returns-in-Ok-clause-was
returns-in-Ok-clause-was c =
    let entries = c.args.orders.now.entries in
    let none : own entries (order_of_line c.args.key) ≡ [] = ap (λ (r : Option (List (ℕ × OrderLine))). unwrap_or r []) c.requires.none in
    sym (read_own entries c.requires.ordered c.args.key ∙ ap (λ ls. table.get (numbered ls) c.args.key.number) none ∙ table.get-empty nat_cmp c.args.key.number)

pub returns-in-Ok-clause-ok : goal.returns-in-Ok-clause-ok
returns-in-Ok-clause-ok c =
    let old = c.args.orders.now in
    let number = c.args.key.number in
    let none : own old.entries (order_of_line c.args.key) ≡ [] = ap (λ (r : Option (List (ℕ × OrderLine))). unwrap_or r []) c.requires.none in
    line_put old c.insert.new.self (order_of_line c.args.key) c.put.new.self c.requires.ordered c.in-Ok.ensures.ordered
    (subst (λ k. Updates order_cmp old c.insert.new.self k (Some c.put.new.self)) c.order.ensures c.in-Ok.ensures.updates) number (Some c.args.row)
    (c.in_ok-put.ensures.ok ∙ ap (λ ls. table.insert (numbered ls) number c.args.row) (c.new-lines.ensures ∙ sym none))

pub returns-in-Ok-clause-numbered : goal.returns-in-Ok-clause-numbered
returns-in-Ok-clause-numbered c =
    subst AreNumbered (sym c.in-Ok.ensures.entries) (insert_numbered c.order.result c.put.new.self c.args.orders.now.entries c.put.ensures.ordered c.requires.numbered)
