use Rattle.std.proofs.Common.{◌≡◌, ◌+◌, ◌+ℤ◌, drop, sym, ap, ◌∙◌, arith}
use Rattle.std.proofs.lemmas.Int.{ints}
use Rattle.std.proofs.lemmas.List.{at_drop_more}
use Rattle.rows.specs.declared.records.District.{District}
use Rattle.consistency.specs.Totals.{sum_of}
use Rattle.consistency.proofs.totals.districts_total.Goals as goal

pub loop-district-preserved : goal.loop-district-preserved
loop-district-preserved c =
    let xs = c.args.districts.now in
    let i = c.loop-district.district-index in
    let ytds = sum_of (λ (district : District). district.ytd) in
    let step : ytds (drop i xs) ≡ (c.district-item.result.ytd +ℤ ytds (drop (i + 1) xs)) =
    at_drop_more ytds xs i c.district-item.result (omega arith) ∙ ap (λ x. x.ytd +ℤ ytds (drop (i + 1) xs)) (sym c.district-item.is) in
    record { so_far = omega (arith, ints); within = record { low = omega (arith, ints); high = omega (arith, ints) } }
