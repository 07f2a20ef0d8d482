use Rattle.std.proofs.Common.{◌≡◌, ◌↔◌, ◌<◌, ◌≤◌, false, true, [], length, Some, IsTrue, refl, sym, ap, subst, ◌∙◌, arith, unwrap_or}
use Rattle.std.proofs.lemmas.Int.{ints}
use Rattle.std.specs.List.{slice_get}
use Rattle.schema.specs.Database.{Database}
use Rattle.schema.specs.Consistency.{amounts_of, DistrictsSumPayments}
use Rattle.consistency.proofs.TotalsLoops.{each_more, holds_at_end, fails_at, row_read}
use Rattle.consistency.proofs.PaymentsRows.{DistrictIsPaid, districts_paid}
use Rattle.consistency.proofs.payments.districts_sum_payments.Goals as goal

pub returns-then-from-payments_total : goal.returns-then-from-payments_total
returns-then-from-payments_total c =
    let t = c.args.tables.now in
    let rows = c.rows-rows.result.now in
    let fits = c.rows-rows.ensures.fits in
    let place = c.loop-place.place in
    let row = c.district-item.result in
    let here : slice_get rows.districts.items place ≡ Some row =
    row_read c.deref-district-items.result.now _ c.deref-district-items.ensures.value place row (omega arith) c.district-item.is in
    let below : place < length rows.histories.items = omega (arith, fits.counts.districts, fits.counts.histories) in
    let list : slice_get rows.histories.items place ≡ Some c.index.result.now = row_read _ _ refl place _ below c.index.ensures in
    let total : c.payments_total.result ≡ amounts_of (unwrap_or (slice_get rows.histories.items place) []) =
    c.payments_total.ensures.value ∙ ap amounts_of (c.rows.ensures ∙ sym (ap (λ r. unwrap_or r []) list)) in
    subst (λ (d : Database). IsTrue false ↔ DistrictsSumPayments d) c.rows-rows.ensures.same
    (fails_at (DistrictIsPaid rows) rows.districts.items (districts_paid t.scale rows fits) place row here
    (λ e. omega (arith, ints)))

pub loop-place-preserved : goal.loop-place-preserved
loop-place-preserved c =
    let rows = c.rows-rows.result.now in
    let fits = c.rows-rows.ensures.fits in
    let place = c.loop-place.place in
    let row = c.district-item.result in
    let here : slice_get rows.districts.items place ≡ Some row =
    row_read c.deref-district-items.result.now _ c.deref-district-items.ensures.value place row (omega arith) c.district-item.is in
    let below : place < length rows.histories.items = omega (arith, fits.counts.districts, fits.counts.histories) in
    let list : slice_get rows.histories.items place ≡ Some c.index.result.now = row_read _ _ refl place _ below c.index.ensures in
    let total : c.payments_total.result ≡ amounts_of (unwrap_or (slice_get rows.histories.items place) []) =
    c.payments_total.ensures.value ∙ ap amounts_of (c.rows.ensures ∙ sym (ap (λ r. unwrap_or r []) list)) in
    let paid : DistrictIsPaid rows place row = omega (arith, ints) in
    each_more (DistrictIsPaid rows) rows.districts.items place row c.loop-place.invariant here paid

pub returns : goal.returns
returns c =
    let t = c.args.tables.now in
    let rows = c.rows-rows.result.now in
    let past : length rows.districts.items ≤ c.loop-place.place = omega (arith, ap length c.deref-district-items.ensures.value) in
    subst (λ (d : Database). IsTrue true ↔ DistrictsSumPayments d) c.rows-rows.ensures.same
    (holds_at_end (DistrictIsPaid rows) rows.districts.items (districts_paid t.scale rows c.rows-rows.ensures.fits) c.loop-place.place past c.loop-place.invariant)
