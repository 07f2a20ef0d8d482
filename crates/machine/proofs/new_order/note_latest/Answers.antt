use Rattle.std.proofs.Common.{◌≡◌, ℕ, List, IfSome, sym, ap, subst, ◌∙◌}
use Rattle.rows.specs.declared.records.Order.{Order}
use Rattle.schema.specs.Scale.{district_slot}
use Rattle.schema.specs.Consistency.{greatest}
use Rattle.indexes.specs.LatestOrder.{order_numbers}
use Rattle.indexes.specs.LatestIndex.{FitsLatest, raised, with_latest}
use Rattle.machine.specs.NewOrder as spec
use Rattle.machine.proofs.LatestNoted.{raised_noted, replaced_noted}
use Rattle.machine.proofs.new_order.note_latest.Goals as goal

pub returns-then-other-order : goal.returns-then-other-order
returns-then-other-order c before put fits =
    let t = c.args.tables.now in
    let slot = district_slot t.scale in
    let key = spec.order_key c.args.order.now.home c.args.o_id in
    let row = spec.order_row c.args.order.now in
    let other = c.in-Some.other in
    let is_raised = c.raise_order.ensures ∙ ap (λ k. raised slot t.scale.customers c.args.latest.now k c.args.o_id) c.customer_of.ensures in
    let is = c.look_through.ensures ∙ (λ i. with_latest slot t.scale.customers (is_raised i) (c.customer_of-then-other-order.ensures i) (greatest (order_numbers t.orders (c.customer_of-then-other-order.ensures i)))) in
    subst (λ (index : List ℕ). FitsLatest index t) (sym is)
    (replaced_noted before t key row c.args.replaced put c.scale.ensures.rows.apart c.args.latest.now fits other c.in-Some.is)

pub returns-else-other-order : goal.returns-else-other-order
returns-else-other-order c before put fits =
    let t = c.args.tables.now in
    let key = spec.order_key c.args.order.now.home c.args.o_id in
    let row = spec.order_row c.args.order.now in
    let is = c.raise_order.ensures ∙ ap (λ k. raised (district_slot t.scale) t.scale.customers c.args.latest.now k c.args.o_id) c.customer_of.ensures in
    subst (λ (index : List ℕ). FitsLatest index t) (sym is)
    (raised_noted before t key row c.args.replaced put c.scale.ensures.rows.apart c.args.latest.now fits
    (subst (λ o. IfSome o (λ (old : Order). old.c_id ≡ row.c_id)) (sym c.in-Some.is) c.if-other-order.false))

pub returns-in_default : goal.returns-in_default
returns-in_default c before put fits =
    let t = c.args.tables.now in
    let key = spec.order_key c.args.order.now.home c.args.o_id in
    let row = spec.order_row c.args.order.now in
    let is = c.raise_order.ensures ∙ ap (λ k. raised (district_slot t.scale) t.scale.customers c.args.latest.now k c.args.o_id) c.customer_of.ensures in
    subst (λ (index : List ℕ). FitsLatest index t) (sym is)
    (raised_noted before t key row c.args.replaced put c.scale.ensures.rows.apart c.args.latest.now fits
    (subst (λ o. IfSome o (λ (old : Order). old.c_id ≡ row.c_id)) (sym c.in_default.is) tt))
