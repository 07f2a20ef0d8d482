use Rattle.std.proofs.Common.{◌≡◌, List, [], ℕ, Option, cond, length, nat_eq, sym, ap, subst, ◌∙◌, rules}
use Rattle.std.specs.BTreeMap.{BTreeMap, is_at}
use Rattle.std.specs.FinMap as table
use Rattle.std.specs.Option.{unwrap_or, option_map}
use Rattle.std.specs.Ordering.{eq_by_cmp}
use Rattle.rows.specs.declared.keys.OrderKey.{OrderKey}
use Rattle.rows.specs.declared.records.OrderLine.{OrderLine}
use Rattle.rows.specs.Keys.{order_cmp, line_cmp}
use Rattle.schema.specs.OrderRows.{line_table, line_key}
use Rattle.schema.specs.PackedLines.{numbered, all_lines, AreNumbered}
use Rattle.schema.proofs.PackedLines.{own, line_set, set_numbered, line_unset, set_many}
use Rattle.schema.proofs.order_lines.set_delivery.Goals as goal

pub returns-in-Some-clause-rows : goal.returns-in-Some-clause-rows
returns-in-Some-clause-rows c = λ q.
    let old = c.args.orders.now in
    let held = c.get_mut.follows.holds c.set_delivery.new.self in
    let number = c.args.key.number in
    let f : OrderLine → OrderLine = λ row. record row { delivery_d = c.args.moment } in
    let is_own : own old.entries c.order.result ≡ c.in-Some.lines.now = sym (ap (λ (r : Option (List (ℕ × OrderLine))). unwrap_or r []) c.in-Some.ensures.value) in
    line_set old (c.get_mut.follows.lender c.set_delivery.new.self) c.order.result c.set_delivery.new.self c.get_mut.ensures.ordered held.4 (held.3 (search rules)) f number
    (λ n. c.set_delivery.ensures.rows n ∙ ap (λ ls. option_map (λ row. cond (nat_eq n number) (f row) row) (table.get (numbered ls) n)) (sym is_own)) q
    ∙ ap (λ o. option_map (λ row. cond (eq_by_cmp line_cmp q (line_key o number)) (f row) row) (table.get (line_table (all_lines old.entries)) q)) c.order.ensures

pub returns-in-Some-clause-many : goal.returns-in-Some-clause-many
returns-in-Some-clause-many c =
    let held = c.get_mut.follows.holds c.set_delivery.new.self in
    ap (λ es. length (all_lines es)) held.0
    ∙ set_many (is_at (order_cmp c.order.result)) c.in-Some.lines.now c.set_delivery.new.self c.args.orders.now.entries c.in-Some.ensures.value c.set_delivery.ensures.many

pub returns-in-Some-clause-numbered : goal.returns-in-Some-clause-numbered
returns-in-Some-clause-numbered c =
    let held = c.get_mut.follows.holds c.set_delivery.new.self in
    subst AreNumbered (sym held.0) (set_numbered (is_at (order_cmp c.order.result)) c.set_delivery.new.self c.args.orders.now.entries c.set_delivery.ensures.ordered c.requires)

pub returns-in_default-clause-rows : goal.returns-in_default-clause-rows
returns-in_default-clause-rows c = λ q.
    let entries = c.args.orders.now.entries in
    let f : OrderLine → OrderLine = λ row. record row { delivery_d = c.args.moment } in
    let none : own entries c.order.result ≡ [] = sym (ap (λ (r : Option (List (ℕ × OrderLine))). unwrap_or r []) c.in_default.ensures.value) in
    ap (λ es. table.get (line_table (all_lines es)) q) (ap (λ (m : BTreeMap OrderKey (List (ℕ × OrderLine))). m.entries) c.get_mut.follows.holds-at-none)
    ∙ line_unset entries c.get_mut.ensures.ordered c.order.result none f c.args.key.number q
    ∙ ap (λ o. option_map (λ row. cond (eq_by_cmp line_cmp q (line_key o c.args.key.number)) (f row) row) (table.get (line_table (all_lines entries)) q)) c.order.ensures
