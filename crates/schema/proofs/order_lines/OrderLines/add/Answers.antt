use Rattle.std.proofs.Common.{◌≡◌, ℕ, List, [], Option, None, replicate, length, sym, ap, ◌∙◌, arith}
use Rattle.std.specs.FinMap as table
use Rattle.std.specs.FinMap.{get}
use Rattle.std.specs.Option.{option_or, unwrap_or}
use Rattle.std.specs.Ordering.{nat_cmp}
use Rattle.rows.specs.declared.records.OrderLine.{OrderLine}
use Rattle.schema.specs.OrderRows.{line_table, line_key}
use Rattle.schema.specs.PackedLines.{numbered, numbered_from, with_keys, all_lines}
use Rattle.schema.proofs.LinesPut.{all_put, none_stood}
use Rattle.schema.proofs.PackedLines.{own, read_own, no_order}
use Rattle.schema.proofs.order_lines.OrderLines.add.Goals as goal

pub put_order-requires-clause-none : goal.put_order-requires-clause-none
put_order-requires-clause-none c = no_order c.self.inside.orders.entries c.args.order c.contains_key.result c.contains_key.ensures c.if-contains_key.false

pub returns-clause-lines : goal.returns-clause-lines
returns-clause-lines c =
    let orders = c.self.inside.orders.entries in
    let order = c.args.order in
    let rows = c.args.rows.items in
    all_put order rows (line_table c.args.self.now) (line_table (all_lines c.put_order.new.orders.entries)) (λ q.
    c.in_ok-put_order.ensures.lines q
    ∙ ap (λ ls. option_or (get (line_table (with_keys order ls)) q) (get (line_table (all_lines orders)) q)) c.in_ok-lines.ensures
    ∙ ap (λ l. option_or (get (line_table (with_keys order (numbered_from 1 rows))) q) (get (line_table l) q)) c.self.view_is)

pub returns-clause-were : goal.returns-clause-were
returns-clause-were c =
    let orders = c.self.inside.orders.entries in
    let order = c.args.order in
    let none : own orders order ≡ [] = ap (λ (r : Option (List (ℕ × OrderLine))). unwrap_or r []) (no_order orders order c.contains_key.result c.contains_key.ensures c.if-contains_key.false) in
    let many : c.len-2.result ≡ length c.args.rows.items = omega (arith, c.len-2.ensures, c.args.rows.ok.0) in
    c.in_ok-were-2.ensures ∙ ap (λ n. replicate n None) many
    ∙ sym (none_stood (line_table c.args.self.now) order (λ n.
    ap (λ l. get (line_table l) (line_key order n)) (sym c.self.view_is) ∙ read_own orders c.self.invariant.ordered (line_key order n) ∙ ap (λ ls. get (numbered ls) n) none ∙ table.get-empty nat_cmp n)
    1 (length c.args.rows.items))
