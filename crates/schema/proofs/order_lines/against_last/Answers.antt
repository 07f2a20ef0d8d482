use Rattle.std.proofs.Common.{◌≡◌, ◌-◌, [], Some, length, sym, ap, ◌∙◌, rules}
use Rattle.std.specs.Option.{option_map}
use Rattle.std.proofs.lemmas.Option.{slice_get-map}
use Rattle.schema.proofs.KeyOrders.{orders_exact}
use Rattle.schema.proofs.PackedLines.{none_behind}
use Rattle.std.specs.BTreeMap.{is_at}
use Rattle.std.specs.Map.{lookup}
use Rattle.rows.specs.Keys.{order_cmp}
use Rattle.schema.proofs.LinesPut.{no_elements}
use Rattle.schema.proofs.order_lines.against_last.Goals as goal

pub returns-in-Some-clause-last : goal.returns-in-Some-clause-last
returns-in-Some-clause-last c = λ h.
    let entries = c.args.orders.now.entries in
    let same = sym (orders_exact c.args.order c.in-Some.last.now (sym c.cmp.ensures ∙ h)) in
    slice_get-map (λ e. e.0) entries (length entries - 1) ∙ ap (option_map (λ e. e.0)) c.in-Some.ensures.last ∙ ap (λ k. Some k) same

pub returns-in-Some-clause-behind : goal.returns-in-Some-clause-behind
returns-in-Some-clause-behind c = λ h. none_behind c.args.orders.now c.in-Some.last.now c.args.order c.in-Some.ensures.greatest (sym c.cmp.ensures ∙ h)

pub returns-in-None-clause-behind : goal.returns-in-None-clause-behind
returns-in-None-clause-behind c = λ h.
    let none : c.args.orders.now.entries ≡ [] = no_elements c.args.orders.now.entries (search rules) in
    ap (lookup (is_at (order_cmp c.args.order))) none
