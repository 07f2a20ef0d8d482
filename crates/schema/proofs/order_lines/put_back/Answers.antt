use Rattle.std.proofs.Common.{◌≡◌, List, [], ℕ, Option, is_some, sym, ap, subst, ◌∙◌, rules}
use Rattle.std.proofs.lemmas.Bool.{false≢true}
use Rattle.std.specs.BTreeMap.{is_at}
use Rattle.std.specs.FinMap as table
use Rattle.std.specs.Option.{unwrap_or}
use Rattle.std.specs.Ordering.{nat_cmp}
use Rattle.rows.specs.declared.records.OrderLine.{OrderLine}
use Rattle.rows.specs.Keys.{order_cmp}
use Rattle.schema.specs.MapRows.{put_row}
use Rattle.schema.specs.OrderRows.{line_table, line_key}
use Rattle.schema.specs.PackedLines.{numbered, all_lines, AreNumbered}
use Rattle.schema.proofs.PackedLines.{own, read_own, line_put, set_numbered}
use Rattle.schema.proofs.order_lines.put_back.Goals as goal

pub put_back-requires : goal.put_back-requires
put_back-requires c =
    let entries = c.args.orders.now.entries in
    let number = c.args.key.number in
    let is_own : own entries c.order.result ≡ c.in-Some.lines.now = sym (ap (λ (r : Option (List (ℕ × OrderLine))). unwrap_or r []) c.in-Some.ensures.value) in
    let read = read_own entries c.get_mut.ensures.ordered c.args.key ∙ ap (λ o. table.get (numbered (own entries o)) number) (sym c.order.ensures) ∙ ap (λ ls. table.get (numbered ls) number) is_own in
    ap is_some (sym read) ∙ c.requires.there

pub returns-in-Some-clause-rows : goal.returns-in-Some-clause-rows
returns-in-Some-clause-rows c =
    let old = c.args.orders.now in
    let held = c.get_mut.follows.holds c.put_back.new.self in
    let number = c.args.key.number in
    let is_own : own old.entries c.order.result ≡ c.in-Some.lines.now = sym (ap (λ (r : Option (List (ℕ × OrderLine))). unwrap_or r []) c.in-Some.ensures.value) in
    line_put old (c.get_mut.follows.lender c.put_back.new.self) c.order.result c.put_back.new.self c.get_mut.ensures.ordered held.4 (held.3 (search rules)) number c.args.was
    (c.put_back.ensures.rows ∙ ap (λ ls. put_row (numbered ls) number c.args.was) (sym is_own))
    ∙ ap (λ o. put_row (line_table (all_lines old.entries)) (line_key o number) c.args.was) c.order.ensures

pub returns-in-Some-clause-numbered : goal.returns-in-Some-clause-numbered
returns-in-Some-clause-numbered c =
    let held = c.get_mut.follows.holds c.put_back.new.self in
    subst AreNumbered (sym held.0) (set_numbered (is_at (order_cmp c.order.result)) c.put_back.new.self c.args.orders.now.entries c.put_back.ensures.ordered c.requires.numbered)

pub returns-in_default-clause-rows : goal.returns-in_default-clause-rows
returns-in_default-clause-rows c =
    let entries = c.args.orders.now.entries in
    let none : own entries c.order.result ≡ [] = sym (ap (λ (r : Option (List (ℕ × OrderLine))). unwrap_or r []) c.in_default.ensures.value) in
    let gone = ap is_some (read_own entries c.get_mut.ensures.ordered c.args.key ∙ ap (λ o. table.get (numbered (own entries o)) c.args.key.number) (sym c.order.ensures)
    ∙ ap (λ ls. table.get (numbered ls) c.args.key.number) none ∙ table.get-empty nat_cmp c.args.key.number) in
    absurd (false≢true (sym gone ∙ c.requires.there))
