use Rattle.std.proofs.Common.{◌≡◌, ◌<◌, ◌^◌, length, get_or, Some, refl, ap, arith}
use Rattle.std.proofs.lemmas.Int.{ints}
use Rattle.std.proofs.lemmas.Option.{get_or_from_slice_get}
use Rattle.std.specs.List.{slice_get}
use Rattle.std.specs.Prelude.{pos}
use Rattle.consistency.specs.Totals.{IsWithin}
use Rattle.consistency.proofs.TotalsLoops.{each_more, holds_at_end, fails_at, row_read}
use Rattle.consistency.proofs.BalancesTotals.{there}
use Rattle.consistency.proofs.BalancesRows.{CustomerIsOwed, total_there, owed_means}
use Rattle.consistency.proofs.balances.balances_are_owed.Goals as goal

pub bounds-deliveries-place : goal.bounds-deliveries-place
bounds-deliveries-place c =
    let rows = c.rows-rows.result.now in
    let below : c.loop-place.place < length rows.customers.items = omega (arith, ap length c.deref-customer-items.ensures.value) in
    total_there c.args.tables.now.scale rows c.rows-rows.ensures.fits _ c.args.deliveries.now c.requires.totals c.loop-place.place below

pub index-requires : goal.index-requires
index-requires c =
    let rows = c.rows-rows.result.now in
    let payments = c.in_ok-payments.payments.items in
    let below : c.loop-place.place < length rows.customers.items = omega (arith, ap length c.deref-customer-items.ensures.value) in
    let there : c.loop-place.place < length payments = total_there c.args.tables.now.scale rows c.rows-rows.ensures.fits _ payments c.in_ok-payments.ensures.totals c.loop-place.place below in
    omega arith

pub overflow_sub-deliveries : goal.overflow_sub-deliveries
overflow_sub-deliveries c =
    let rows = c.rows-rows.result.now in
    let customers = c.deref-customer-items.result.now in
    let deliveries = c.args.deliveries.now in
    let payments = c.in_ok-payments.payments.items in
    let place = c.loop-place.place in
    let below : place < length rows.customers.items = omega (arith, ap length c.deref-customer-items.ensures.value) in
    let delivered_there : place < length deliveries = total_there c.args.tables.now.scale rows c.rows-rows.ensures.fits _ deliveries c.requires.totals place below in
    let paid_there : place < length payments = total_there c.args.tables.now.scale rows c.rows-rows.ensures.fits _ payments c.in_ok-payments.ensures.totals place below in
    let owing : IsWithin (2 ^ 124) (get_or deliveries place (pos 0)) = c.requires.within place _ (there deliveries place delivered_there) in
    let paying : IsWithin (2 ^ 126) (get_or payments place (pos 0)) = c.in_ok-payments.ensures.within place _ (there payments place paid_there) in
    let read : get_or payments place (pos 0) ≡ c.index.result.now =
    get_or_from_slice_get payments place _ (pos 0) (row_read payments payments refl place _ paid_there c.index.ensures) in
    omega (arith, ints)

pub returns-then-from-deliveries : goal.returns-then-from-deliveries
returns-then-from-deliveries c =
    let rows = c.rows-rows.result.now in
    let customers = c.deref-customer-items.result.now in
    let deliveries = c.args.deliveries.now in
    let payments = c.in_ok-payments.payments.items in
    let place = c.loop-place.place in
    let below : place < length rows.customers.items = omega (arith, ap length c.deref-customer-items.ensures.value) in
    let delivered_there : place < length deliveries = total_there c.args.tables.now.scale rows c.rows-rows.ensures.fits _ deliveries c.requires.totals place below in
    let paid_there : place < length payments = total_there c.args.tables.now.scale rows c.rows-rows.ensures.fits _ payments c.in_ok-payments.ensures.totals place below in
    let owing : IsWithin (2 ^ 124) (get_or deliveries place (pos 0)) = c.requires.within place _ (there deliveries place delivered_there) in
    let paying : IsWithin (2 ^ 126) (get_or payments place (pos 0)) = c.in_ok-payments.ensures.within place _ (there payments place paid_there) in
    let read : get_or payments place (pos 0) ≡ c.index.result.now =
    get_or_from_slice_get payments place _ (pos 0) (row_read payments payments refl place _ paid_there c.index.ensures) in
    let row = c.customer-item.result in
    let here : slice_get customers place ≡ Some row = row_read customers customers refl place row (omega arith) c.customer-item.is in
    fails_at (CustomerIsOwed deliveries payments) customers
    (owed_means c.args.tables.now rows c.rows-rows.ensures.same c.rows-rows.ensures.fits customers c.deref-customer-items.ensures.value deliveries c.requires.totals payments c.in_ok-payments.ensures.totals)
    place row here (λ e. omega (arith, ints))

pub loop-place-preserved : goal.loop-place-preserved
loop-place-preserved c =
    let rows = c.rows-rows.result.now in
    let customers = c.deref-customer-items.result.now in
    let deliveries = c.args.deliveries.now in
    let payments = c.in_ok-payments.payments.items in
    let place = c.loop-place.place in
    let below : place < length rows.customers.items = omega (arith, ap length c.deref-customer-items.ensures.value) in
    let delivered_there : place < length deliveries = total_there c.args.tables.now.scale rows c.rows-rows.ensures.fits _ deliveries c.requires.totals place below in
    let paid_there : place < length payments = total_there c.args.tables.now.scale rows c.rows-rows.ensures.fits _ payments c.in_ok-payments.ensures.totals place below in
    let owing : IsWithin (2 ^ 124) (get_or deliveries place (pos 0)) = c.requires.within place _ (there deliveries place delivered_there) in
    let paying : IsWithin (2 ^ 126) (get_or payments place (pos 0)) = c.in_ok-payments.ensures.within place _ (there payments place paid_there) in
    let read : get_or payments place (pos 0) ≡ c.index.result.now =
    get_or_from_slice_get payments place _ (pos 0) (row_read payments payments refl place _ paid_there c.index.ensures) in
    let row = c.customer-item.result in
    let here : slice_get customers place ≡ Some row = row_read customers customers refl place row (omega arith) c.customer-item.is in
    let owed : CustomerIsOwed deliveries payments place row = omega (arith, ints) in
    each_more (CustomerIsOwed deliveries payments) customers place row c.loop-place.invariant here owed

pub returns : goal.returns
returns c =
    let customers = c.deref-customer-items.result.now in
    let deliveries = c.args.deliveries.now in
    let payments = c.in_ok-payments.payments.items in
    holds_at_end (CustomerIsOwed deliveries payments) customers
    (owed_means c.args.tables.now c.rows-rows.result.now c.rows-rows.ensures.same c.rows-rows.ensures.fits customers c.deref-customer-items.ensures.value deliveries c.requires.totals payments c.in_ok-payments.ensures.totals)
    c.loop-place.place (omega arith) c.loop-place.invariant
