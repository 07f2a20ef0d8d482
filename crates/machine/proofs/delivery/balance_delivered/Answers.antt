use Rattle.std.proofs.Common.{◌≡◌, Some, ap, sym, subst, ◌∙◌, arith, to_z, of_z, w64}
use Rattle.std.specs.Prelude.{pos, ◌+ℤ◌}
use Rattle.std.proofs.lemmas.Int.{ints}
use Rattle.amounts.specs.Money.{IsMoney}
use Rattle.machine.specs.Delivery.{amount_of}
use Rattle.machine.proofs.BalanceDelivered.{one_line_more, one_line_too_many, no_line_more, come_to}
use Rattle.machine.proofs.delivery.balance_delivered.Goals as goal

pub loop-line-init : goal.loop-line-init
loop-line-init c =
    let same : to_z w64 (of_z w64 c.get-cents.result) ≡ c.args.balance = omega (arith, ints) in (
      subst IsMoney (sym same) c.get-cents.ensures.in_range,
      ap (λ z. z +ℤ pos (come_to c.into_iter-line-iterator.result)) same
          ∙ ap (λ rows. c.args.balance +ℤ pos (come_to rows)) (c.into_iter-line-iterator.ensures.into_iter_gives ∙ c.lines_of-line-items.ensures.rows),
    )

pub returns-in_default : goal.returns-in_default
returns-in_default c =
    let sum = to_z w64 (of_z w64 (to_z w64 c.loop-line.cents-bits +ℤ to_z w64 (of_z w64 c.from.result))) in
    let sum_is : sum ≡ to_z w64 c.loop-line.cents-bits +ℤ pos c.in-Some.line.now.amount = omega (arith, ints) in
    one_line_too_many (to_z w64 c.loop-line.cents-bits) (c.args.balance +ℤ pos (amount_of c.args.tables.now c.args.order))
    c.loop-line.line-iterator c.next.new.self (c.in-Some.field-0-0, c.in-Some.line.now) sum c.in-Some.ensures.steps
    (sym c.checked_new.ensures ∙ c.in_default.is) sum_is c.loop-line.invariant.0 c.loop-line.invariant.1

pub loop-line-preserved : goal.loop-line-preserved
loop-line-preserved c =
    let sum = to_z w64 (of_z w64 (to_z w64 c.loop-line.cents-bits +ℤ to_z w64 (of_z w64 c.from.result))) in
    let sum_is : sum ≡ to_z w64 c.loop-line.cents-bits +ℤ pos c.in-Some.line.now.amount = omega (arith, ints) in
    let same : to_z w64 (of_z w64 c.get-cents-in-loop-line.result) ≡ c.in-Some-checked_new.sum = omega (arith, ints) in
    let more = one_line_more (to_z w64 c.loop-line.cents-bits) (c.args.balance +ℤ pos (amount_of c.args.tables.now c.args.order))
    c.loop-line.line-iterator c.next.new.self (c.in-Some.field-0-0, c.in-Some.line.now) sum c.in-Some-checked_new.sum c.in-Some.ensures.steps
    (sym c.checked_new.ensures ∙ c.in-Some-checked_new.is) sum_is c.loop-line.invariant.1 in (
      subst IsMoney (sym same) c.get-cents-in-loop-line.ensures.in_range,
      ap (λ z. z +ℤ pos (come_to c.next.new.self)) same ∙ more,
    )

pub returns : goal.returns
returns c =
    let same : c.new.result ≡ to_z w64 c.loop-line.cents-bits = omega (arith, ints) in
    ap (λ z. Some z) same
    ∙ no_line_more (to_z w64 c.loop-line.cents-bits) (c.args.balance +ℤ pos (amount_of c.args.tables.now c.args.order)) c.loop-line.line-iterator c.in-None.ensures.steps.0 c.loop-line.invariant.0 c.loop-line.invariant.1
