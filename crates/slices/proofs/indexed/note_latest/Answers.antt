use Rattle.std.proofs.Common.{◌≡◌, ℕ, List, Option, sym, ap, subst, ◌∙◌}
use Rattle.partitions.specs.Slots.{home_slot}
use Rattle.schema.specs.Consistency.{greatest}
use Rattle.indexes.specs.LatestOrder.{order_numbers}
use Rattle.indexes.specs.LatestIndex.{FitsLatestBy, raised, with_latest}
use Rattle.slices.proofs.LatestNoted.{raised_for, looked_through_for, noted_fits}
use Rattle.slices.proofs.indexed.note_latest.Goals as goal
use Rattle.slices.proofs.indexed.note_latest.Goals.{in-Some, in_default, Joined-now}

-- the index after it is raised to the stored order
raised_here : (c : Joined-now) → c.match-now.latest ≡ raised_for (home_slot c.args.rows.now.home) c.args.rows.now.tables.scale.customers c.args.key c.args.now c.args.latest.now
raised_here c =
    let t = c.args.rows.now.tables in
    let slot = home_slot c.args.rows.now.home in
    elim c.match-now.branch [
      | in-Some w ↦
          w.latest-is ∙ w.raise_order.ensures ∙ ap (λ k. raised slot t.scale.customers c.args.latest.now k c.args.key.o_id) w.customer_of.ensures
          ∙ sym (ap (λ (o : Option ℕ). raised_for slot t.scale.customers c.args.key o c.args.latest.now) w.in-Some.is)
      | in_default w ↦ w.latest-is ∙ sym (ap (λ (o : Option ℕ). raised_for slot t.scale.customers c.args.key o c.args.latest.now) w.in_default.is)
    ]

pub returns-in-Some-was : goal.returns-in-Some-was
returns-in-Some-was c = λ before row changed fits.
    let t = c.args.rows.now.tables in
    let slot = home_slot c.args.rows.now.home in
    let is = c.look_through.ensures
    ∙ (λ i. with_latest slot t.scale.customers (raised_here (goal.at.returns-in-Some-was c).Joined-now i) (c.customer_of-in-Some-was.ensures i) (greatest (order_numbers t.orders (c.customer_of-in-Some-was.ensures i))))
    ∙ sym (ap (λ (o : Option ℕ). looked_through_for slot t.scale.customers t.orders c.args.key o (raised_for slot t.scale.customers c.args.key c.args.now c.args.latest.now)) c.in-Some-was.is) in
    subst (λ (index : List ℕ). FitsLatestBy slot index t) (sym is)
    (noted_fits slot before t c.args.key row c.args.was c.args.now changed c.scale.ensures.rows.apart c.args.latest.now fits)

pub returns-in_default-was : goal.returns-in_default-was
returns-in_default-was c = λ before row changed fits.
    let t = c.args.rows.now.tables in
    let slot = home_slot c.args.rows.now.home in
    let is = raised_here (goal.at.returns-in_default-was c).Joined-now
    ∙ sym (ap (λ (o : Option ℕ). looked_through_for slot t.scale.customers t.orders c.args.key o (raised_for slot t.scale.customers c.args.key c.args.now c.args.latest.now)) c.in_default-was.is) in
    subst (λ (index : List ℕ). FitsLatestBy slot index t) (sym is)
    (noted_fits slot before t c.args.key row c.args.was c.args.now changed c.scale.ensures.rows.apart c.args.latest.now fits)
