use Rattle.std.proofs.Common.{◌≡◌, ◌↔◌, ◌*◌, ◌≤◌, false, true, length, take, drop, Some, IsTrue, ap, subst, ◌∙◌, arith}
use Rattle.std.proofs.lemmas.Int.{ints}
use Rattle.std.specs.List.{slice_get}
use Rattle.schema.specs.Database.{Database}
use Rattle.schema.specs.Consistency.{WarehousesSumPayments, amounts_of}
use Rattle.consistency.specs.Totals.{sum_of}
use Rattle.consistency.proofs.TotalsBlocks.{ten_rows}
use Rattle.consistency.proofs.TotalsLoops.{each_more, holds_at_end, fails_at, row_read}
use Rattle.consistency.proofs.PaymentsRows.{WarehouseIsPaid, warehouses_paid}
use Rattle.consistency.proofs.payments.warehouses_sum_payments.Goals as goal

pub returns-then-from-lists_total : goal.returns-then-from-lists_total
returns-then-from-lists_total c =
    let fits = c.rows-rows.ensures.fits in
    let rows = c.rows-rows.result.now in
    let place = c.loop-place.place in
    let row = c.warehouse-item.result in
    let here : slice_get rows.warehouses.items place ≡ Some row =
    row_read c.deref-warehouse-items.result.now _ c.deref-warehouse-items.ensures.value place row (omega arith) c.warehouse-item.is in
    let total : c.lists_total.result ≡ sum_of amounts_of (take 10 (drop (10 * place) rows.histories.items)) =
    c.lists_total.ensures ∙ ap (sum_of amounts_of) (ten_rows _ _ c.deref.ensures.value place) in
    subst (λ (d : Database). IsTrue false ↔ WarehousesSumPayments d) c.rows-rows.ensures.same
    (fails_at (WarehouseIsPaid rows) rows.warehouses.items (warehouses_paid c.args.tables.now.scale rows fits) place row here
    (λ e. omega (arith, ints)))

pub loop-place-preserved : goal.loop-place-preserved
loop-place-preserved c =
    let rows = c.rows-rows.result.now in
    let place = c.loop-place.place in
    let row = c.warehouse-item.result in
    let here : slice_get rows.warehouses.items place ≡ Some row =
    row_read c.deref-warehouse-items.result.now _ c.deref-warehouse-items.ensures.value place row (omega arith) c.warehouse-item.is in
    let total : c.lists_total.result ≡ sum_of amounts_of (take 10 (drop (10 * place) rows.histories.items)) =
    c.lists_total.ensures ∙ ap (sum_of amounts_of) (ten_rows _ _ c.deref.ensures.value place) in
    let adds_up : WarehouseIsPaid rows place row = omega (arith, ints) in
    each_more (WarehouseIsPaid rows) rows.warehouses.items place row c.loop-place.invariant here adds_up

pub returns : goal.returns
returns c =
    let rows = c.rows-rows.result.now in
    let past : length rows.warehouses.items ≤ c.loop-place.place = omega (arith, ap length c.deref-warehouse-items.ensures.value) in
    subst (λ (d : Database). IsTrue true ↔ WarehousesSumPayments d) c.rows-rows.ensures.same
    (holds_at_end (WarehouseIsPaid rows) rows.warehouses.items (warehouses_paid c.args.tables.now.scale rows c.rows-rows.ensures.fits) c.loop-place.place past c.loop-place.invariant)
