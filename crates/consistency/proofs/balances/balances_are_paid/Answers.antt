use Rattle.std.proofs.Common.{◌≡◌, ◌<◌, length, Some, refl, ap, arith}
use Rattle.std.proofs.lemmas.Int.{ints}
use Rattle.std.specs.List.{slice_get}
use Rattle.consistency.proofs.TotalsLoops.{each_more, holds_at_end, fails_at, row_read}
use Rattle.consistency.proofs.BalancesRows.{CustomerIsPaid, total_there, paid_means}
use Rattle.consistency.proofs.balances.balances_are_paid.Goals as goal

pub bounds-deliveries-place : goal.bounds-deliveries-place
bounds-deliveries-place c =
    let t = c.args.tables.now in
    let rows = c.rows-rows.result.now in
    let below : c.loop-place.place < length rows.customers.items = omega (arith, ap length c.deref-customer-items.ensures.value) in
    total_there t.scale rows c.rows-rows.ensures.fits _ c.args.deliveries.now c.requires c.loop-place.place below

pub returns-then-received-deliveries : goal.returns-then-received-deliveries
returns-then-received-deliveries c =
    let customers = c.deref-customer-items.result.now in
    let deliveries = c.args.deliveries.now in
    let place = c.loop-place.place in
    let row = c.customer-item.result in
    let here : slice_get customers place ≡ Some row = row_read customers customers refl place row (omega arith) c.customer-item.is in
    fails_at (CustomerIsPaid deliveries) customers
    (paid_means c.args.tables.now c.rows-rows.result.now c.rows-rows.ensures.same c.rows-rows.ensures.fits customers c.deref-customer-items.ensures.value deliveries c.requires)
    place row here (λ e. omega (arith, ints))

pub loop-place-preserved : goal.loop-place-preserved
loop-place-preserved c =
    let customers = c.deref-customer-items.result.now in
    let deliveries = c.args.deliveries.now in
    let place = c.loop-place.place in
    let row = c.customer-item.result in
    let here : slice_get customers place ≡ Some row = row_read customers customers refl place row (omega arith) c.customer-item.is in
    let paid : CustomerIsPaid deliveries place row = omega (arith, ints) in
    each_more (CustomerIsPaid deliveries) customers place row c.loop-place.invariant here paid

pub returns : goal.returns
returns c =
    let customers = c.deref-customer-items.result.now in
    let deliveries = c.args.deliveries.now in
    holds_at_end (CustomerIsPaid deliveries) customers
    (paid_means c.args.tables.now c.rows-rows.result.now c.rows-rows.ensures.same c.rows-rows.ensures.fits customers c.deref-customer-items.ensures.value deliveries c.requires)
    c.loop-place.place (omega arith) c.loop-place.invariant
