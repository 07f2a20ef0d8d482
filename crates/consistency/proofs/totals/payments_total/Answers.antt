use Rattle.std.proofs.Common.{◌≡◌, ◌+◌, ◌+ℤ◌, drop, sym, ap, ◌∙◌, arith}
use Rattle.std.proofs.lemmas.Int.{ints}
use Rattle.std.proofs.lemmas.List.{at_drop_more}
use Rattle.schema.specs.Consistency.{amounts_of}
use Rattle.consistency.proofs.totals.payments_total.Goals as goal

pub loop-payment-preserved : goal.loop-payment-preserved
loop-payment-preserved c =
    let xs = c.args.payments.now in
    let i = c.loop-payment.payment-index in
    let step : amounts_of (drop i xs) ≡ (c.payment-item.result.amount +ℤ amounts_of (drop (i + 1) xs)) =
    at_drop_more amounts_of xs i c.payment-item.result (omega arith) ∙ ap (λ x. x.amount +ℤ amounts_of (drop (i + 1) xs)) (sym c.payment-item.is) in
    record { so_far = omega (arith, ints); within = record { low = omega (arith, ints); high = omega (arith, ints) } }
