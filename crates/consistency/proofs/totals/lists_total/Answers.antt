use Rattle.std.proofs.Common.{◌≡◌, ◌+◌, ◌+ℤ◌, drop, sym, ap, ◌∙◌, arith}
use Rattle.std.proofs.lemmas.Int.{ints}
use Rattle.std.proofs.lemmas.List.{at_drop_more}
use Rattle.schema.specs.Consistency.{amounts_of}
use Rattle.consistency.specs.Totals.{sum_of}
use Rattle.consistency.proofs.totals.lists_total.Goals as goal

pub loop-list-preserved : goal.loop-list-preserved
loop-list-preserved c =
    let xs = c.args.lists.now in
    let i = c.loop-list.list-index in
    let total : c.payments_total-total.result ≡ amounts_of c.list-item.result = c.payments_total-total.ensures.value ∙ ap amounts_of c.rows.ensures in
    let step : sum_of amounts_of (drop i xs) ≡ (amounts_of c.list-item.result +ℤ sum_of amounts_of (drop (i + 1) xs)) =
    at_drop_more (sum_of amounts_of) xs i c.list-item.result (omega arith) ∙ ap (λ x. amounts_of x +ℤ sum_of amounts_of (drop (i + 1) xs)) (sym c.list-item.is) in
    record { so_far = omega (arith, ints); within = record { low = omega (arith, ints); high = omega (arith, ints) } }
