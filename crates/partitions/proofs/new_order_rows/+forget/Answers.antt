use Rattle.std.proofs.Common.{◌≡◌, true, false, sym, ap, ◌∙◌}
use Rattle.std.specs.FinMap.{remove}
use Rattle.schema.specs.OrderRows.{is_order}
use Rattle.partitions.specs.NewOrders.{with_returned}
use Rattle.partitions.proofs.Returned.{own_forgotten, other_kept}
use Rattle.partitions.proofs.new_order_rows.+forget.Goals as goal

pub returns-then-eq : goal.returns-then-eq
returns-then-eq t c = λ rows.
    let rest = with_returned c.in-Row.rest.value rows in
    let same : is_order c.args.key c.in-Row.own ≡ true = sym c.eq.ensures ∙ c.if-eq.true in
    own_forgotten c.args.key c.in-Row.own (with_returned c.replace-later.result (remove rows c.args.key)) rest same
    (ap (λ r. with_returned r (remove rows c.args.key)) (c.replace-later.ensures.value ∙ c.deref_mut-then-eq.ensures.value) ∙ c.forget.ensures rows ∙ ap (λ r. remove (with_returned r rows) c.args.key) c.deref_mut.ensures.value)
    ∙ ap (λ r. remove (with_returned r rows) c.args.key) (sym c.in-Row.is)

pub returns-else-eq : goal.returns-else-eq
returns-else-eq t c = λ rows.
    let rest = with_returned c.in-Row.rest.value rows in
    let other : is_order c.args.key c.in-Row.own ≡ false = sym c.eq.ensures ∙ c.if-eq.false in
    other_kept c.args.key c.in-Row.own (with_returned c.forget.new.returned (remove rows c.args.key)) rest other
    (c.forget.ensures rows ∙ ap (λ r. remove (with_returned r rows) c.args.key) c.deref_mut.ensures.value)
    ∙ ap (λ r. remove (with_returned r rows) c.args.key) (sym c.in-Row.is)
