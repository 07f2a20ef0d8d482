use Rattle.std.proofs.Common.{◌≡◌, List, [], ℕ, Option, Some, sym, ap, subst, ◌∙◌, rules}
use Rattle.std.specs.BTreeMap.{is_at}
use Rattle.std.specs.FinMap as table
use Rattle.std.specs.Option.{unwrap_or}
use Rattle.rows.specs.declared.records.OrderLine.{OrderLine}
use Rattle.rows.specs.Keys.{order_cmp}
use Rattle.schema.specs.OrderRows.{line_table, line_key}
use Rattle.schema.specs.PackedLines.{numbered, all_lines, AreNumbered}
use Rattle.schema.proofs.PackedLines.{own, read_own, line_put, set_numbered, set_same}
use Rattle.std.proofs.lemmas.Result.{on_ok_weaker, on_err_weaker, IfOk-weaker}
use Rattle.schema.proofs.order_lines.put.Goals as goal

pub returns-in-Some-clause-was : goal.returns-in-Some-clause-was
returns-in-Some-clause-was c =
    let entries = c.args.orders.now.entries in
    let number = c.args.key.number in
    let is_own : own entries c.order-order.result ≡ c.in-Some.lines.now = sym (ap (λ (r : Option (List (ℕ × OrderLine))). unwrap_or r []) c.in-Some.ensures.value) in
    let read = read_own entries c.get_mut.ensures.ordered c.args.key ∙ ap (λ o. table.get (numbered (own entries o)) number) (sym c.order-order.ensures) ∙ ap (λ ls. table.get (numbered ls) number) is_own in
    IfOk-weaker c.put.result _ _ (λ was h. h ∙ sym read) c.put.ensures.was

pub returns-in-Some-clause-ok : goal.returns-in-Some-clause-ok
returns-in-Some-clause-ok c =
    let old = c.args.orders.now in
    let held = c.get_mut.follows.holds c.put.new.self in
    let number = c.args.key.number in
    let is_own : own old.entries c.order-order.result ≡ c.in-Some.lines.now = sym (ap (λ (r : Option (List (ℕ × OrderLine))). unwrap_or r []) c.in-Some.ensures.value) in
    on_ok_weaker c.put.result (λ h.
    line_put old (c.get_mut.follows.lender c.put.new.self) c.order-order.result c.put.new.self c.get_mut.ensures.ordered held.4 (held.3 (search rules)) number (Some c.args.row)
    (h ∙ ap (λ ls. table.insert (numbered ls) number c.args.row) (sym is_own))
    ∙ ap (λ o. table.insert (line_table (all_lines old.entries)) (line_key o number) c.args.row) c.order-order.ensures) c.put.ensures.ok

pub returns-in-Some-clause-err : goal.returns-in-Some-clause-err
returns-in-Some-clause-err c =
    let held = c.get_mut.follows.holds c.put.new.self in
    on_err_weaker c.put.result (λ h.
    held.0 ∙ set_same (is_at (order_cmp c.order-order.result)) c.put.new.self c.args.orders.now.entries (ap Some h ∙ c.in-Some.ensures.value)) c.put.ensures.err

pub returns-in-Some-clause-numbered : goal.returns-in-Some-clause-numbered
returns-in-Some-clause-numbered c =
    let held = c.get_mut.follows.holds c.put.new.self in
    subst AreNumbered (sym held.0) (set_numbered (is_at (order_cmp c.order-order.result)) c.put.new.self c.args.orders.now.entries c.put.ensures.ordered c.requires.numbered)
