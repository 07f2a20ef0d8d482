use Rattle.std.proofs.Common.{◌≡◌, ℕ, List, length, subst, sym, ap, ◌∙◌}
use Rattle.std.specs.BTreeMap.{BTreeMap, is_at}
use Rattle.std.specs.Map.{set_value}
use Rattle.std.proofs.lemmas.List.{length-map}
use Rattle.rows.specs.declared.keys.OrderKey.{OrderKey}
use Rattle.rows.specs.declared.records.OrderLine.{OrderLine}
use Rattle.rows.specs.Keys.{order_cmp}
use Rattle.schema.specs.OrderRows.{with_moment}
use Rattle.schema.specs.PackedLines.{all_lines, AreNumbered}
use Rattle.schema.proofs.PackedLines.{set_numbered, set_many}
use Rattle.schema.proofs.LinesDelivered.{dated, table_of_mapped, all_stay, order_dated}
use Rattle.schema.proofs.order_lines.deliver.Goals as goal

pub returns-in-Some-clause-rows : goal.returns-in-Some-clause-rows
returns-in-Some-clause-rows c =
    let old = c.args.orders.now.entries in
    let held = c.get_mut.follows.holds c.deliver.new.self in
    table_of_mapped (with_moment c.args.order c.args.moment) (all_lines old) (all_lines (c.get_mut.follows.lender c.deliver.new.self).entries)
    (ap all_lines (held.0 ∙ ap (set_value (is_at (order_cmp c.args.order)) old) c.deliver.ensures.rows)
    ∙ order_dated c.args.order c.args.moment c.in-Some.lines.now old c.get_mut.ensures.ordered c.in-Some.ensures.value)

pub returns-in-Some-clause-many : goal.returns-in-Some-clause-many
returns-in-Some-clause-many c =
    let held = c.get_mut.follows.holds c.deliver.new.self in
    ap (λ es. length (all_lines es)) held.0
    ∙ set_many (is_at (order_cmp c.args.order)) c.in-Some.lines.now c.deliver.new.self c.args.orders.now.entries c.in-Some.ensures.value
    (ap length c.deliver.ensures.rows ∙ length-map c.in-Some.lines.now (dated c.args.moment))

pub returns-in-Some-clause-numbered : goal.returns-in-Some-clause-numbered
returns-in-Some-clause-numbered c =
    let held = c.get_mut.follows.holds c.deliver.new.self in
    subst AreNumbered (sym held.0) (set_numbered (is_at (order_cmp c.args.order)) c.deliver.new.self c.args.orders.now.entries c.deliver.ensures.ordered c.requires)

pub returns-in_default-clause-rows : goal.returns-in_default-clause-rows
returns-in_default-clause-rows c =
    let old = c.args.orders.now.entries in
    let same : c.get_mut.follows.lender-at-none.entries ≡ old = ap (λ (m : BTreeMap OrderKey (List (ℕ × OrderLine))). m.entries) c.get_mut.follows.holds-at-none in
    table_of_mapped (with_moment c.args.order c.args.moment) (all_lines old) (all_lines c.get_mut.follows.lender-at-none.entries)
    (ap all_lines same ∙ sym (all_stay c.args.order c.args.moment old (sym c.in_default.ensures.value)))
