use Rattle.std.proofs.Common.{[], List, ℕ, Option, length, sym, ap, subst, ◌∙◌, arith}
use Rattle.std.specs.Option.{unwrap_or}
use Rattle.rows.specs.declared.records.OrderLine.{OrderLine}
use Rattle.schema.specs.PackedLines.{all_lines, AreNumbered}
use Rattle.schema.proofs.PackedLines.{order_added, many_added, insert_numbered}
use Rattle.schema.proofs.order_lines.put_order.Goals as goal

pub returns-clause-lines : goal.returns-clause-lines
returns-clause-lines c = λ key.
    order_added c.args.orders.now c.insert.new.self c.args.order c.args.lines c.requires.kept.ordered c.in_ok-insert.ensures.ordered c.in_ok-insert.ensures.updates (ap (λ (r : Option (List (ℕ × OrderLine))). unwrap_or r []) c.requires.none) key

pub returns-clause-kept : goal.returns-clause-kept
returns-clause-kept c =
    let orders = c.args.orders.now.entries in
    let many = ap (λ es. length (all_lines es)) c.in_ok-insert.ensures.entries ∙ many_added c.args.order c.args.lines orders c.requires.none in
    record {
      ordered = c.in_ok-insert.ensures.ordered;
      numbered = subst AreNumbered (sym c.in_ok-insert.ensures.entries) (insert_numbered c.args.order c.args.lines orders c.as_slice-many.ensures.ordered c.requires.kept.numbered);
      many = omega (arith, many, c.requires.kept.many, ap length c.as_slice-many.ensures.rows);
      fits = omega arith;
    }
