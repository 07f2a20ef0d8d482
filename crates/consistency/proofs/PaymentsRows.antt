-- The conditions on payments and on W_YTD, as the rows meet them one place after another.
use Rattle.std.proofs.Common.{◌≡◌, ◌↔◌, ℕ, ◌+◌, ◌-◌, ◌*◌, ◌<◌, true, List, [], length, take, drop, Some, sym, ap, ◌∙◌, unwrap_or, arith}
use Rattle.std.specs.Prelude.{ℤ}
use Rattle.std.specs.List.{zip, slice_get}
use Rattle.std.specs.Option.{option_and_then}
use Rattle.std.specs.Ordering.{eq_by_cmp, nat_cmp}
use Rattle.std.specs.Cmp.{nat_cmp_total}
use Rattle.std.specs.FinMap as map
use Rattle.std.specs.FinMap.{nat_cmp-IsAntisymmetric}
use Rattle.std.proofs.lemmas.Bool.Decides.{nat_tests}
use Rattle.rows.specs.declared.records.District.{District}
use Rattle.rows.specs.declared.records.Warehouse.{Warehouse}
use Rattle.rows.specs.Keys.{district_cmp}
use Rattle.rows.specs.Ranged.{is_between}
use Rattle.schema.specs.declared.scale.Scale.{Scale}
use Rattle.schema.specs.declared.table_rows.TableRows.{TableRows}
use Rattle.schema.specs.Dense.{place}
use Rattle.schema.specs.Scale.{warehouse_ids, district_keys}
use Rattle.schema.specs.Sums.{sum_rows}
use Rattle.schema.specs.Database.{list_at}
use Rattle.schema.specs.Rows.{database, FitsScale}
use Rattle.schema.specs.Consistency.{amounts_of, WarehousesSumDistricts, WarehousesSumPayments, DistrictsSumPayments}
use Rattle.schema.proofs.Places.{get-dense}
use Rattle.schema.proofs.KeyOrders.{districts_total, districts_exact}
use Rattle.schema.proofs.ScalePlaces.{warehouse_place, length-warehouse_ids, length-district_keys, district_at, place-district_at}
use Rattle.consistency.specs.Totals.{sum_of}
use Rattle.consistency.proofs.TotalsDense.{each-dense, sum-dense}
use Rattle.consistency.proofs.TotalsLoops.{EachPlace, same_each, same_value, both_ways}
use Rattle.consistency.proofs.TotalsBlocks.{of_warehouse, sum-block}

-- ---- what is asked of the row at a place

abbrev pub DistrictIsPaid : TableRows → ℕ → District → Type 0
DistrictIsPaid rows n row = row.ytd ≡ amounts_of (unwrap_or (slice_get rows.histories.items n) [])

abbrev pub WarehouseAddsUp : TableRows → ℕ → Warehouse → Type 0
WarehouseAddsUp rows n row = row.ytd ≡ sum_of (λ (district : District). district.ytd) (take 10 (drop (10 * n) rows.districts.items))

abbrev pub WarehouseIsPaid : TableRows → ℕ → Warehouse → Type 0
WarehouseIsPaid rows n row = row.ytd ≡ sum_of amounts_of (take 10 (drop (10 * n) rows.histories.items))

-- ---- and that this is the condition

placed_warehouse : (scale : Scale) (n : ℕ) → n < length (warehouse_ids scale) → place (eq_by_cmp nat_cmp (1 + n)) (warehouse_ids scale) ≡ Some n
placed_warehouse scale n below =
    let fewer : n < scale.warehouses = omega (arith, length-warehouse_ids scale) in
    let inside : is_between 1 scale.warehouses (1 + n) ≡ true = grind (arith, nat_tests) in
    let is : 1 + n - 1 ≡ n = omega arith in
    warehouse_place scale (1 + n) ∙ rw inside (ap Some is)

module _ (scale : Scale) (rows : TableRows) (fits : FitsScale scale rows) where
  list_there : (n : ℕ) → n < length (district_keys scale) → list_at (database scale rows).histories (district_at n) ≡ unwrap_or (slice_get rows.histories.items n) []
  list_there n below =
      ap (λ r. unwrap_or r []) (get-dense districts_total districts_exact (district_keys scale) rows.histories.items (district_at n)
      ∙ ap (option_and_then (slice_get rows.histories.items)) (place-district_at scale n below))

  pub districts_paid : DistrictsSumPayments (database scale rows) ↔ EachPlace (DistrictIsPaid rows) rows.districts.items
  districts_paid =
      let even : length rows.districts.items ≡ length (district_keys scale) = fits.counts.districts ∙ sym (length-district_keys scale) in
      both_ways
      (each-dense districts_total districts_exact (λ key row. row.ytd ≡ amounts_of (list_at (database scale rows).histories key)) (district_keys scale) rows.districts.items even district_at (place-district_at scale))
      (same_each _ _ rows.districts.items (λ n row below. same_value row.ytd _ _ (ap amounts_of (list_there n (omega arith)))))

  module _ {X : Type 0} (f : X → ℤ) (xs : List X) where
    sum_there : (n : ℕ) → n < scale.warehouses → sum_rows (of_warehouse f (1 + n)) (map.from_entries {R = district_cmp} (zip (district_keys scale) xs)) ≡ sum_of f (take 10 (drop (10 * n) xs))
    sum_there n below =
        sum-dense districts_total districts_exact (of_warehouse f (1 + n)) (district_keys scale) xs district_at (place-district_at scale)
        ∙ sum-block f 1 n scale.warehouses xs below

    -- W_YTD is the sum over the warehouse's districts
    warehouses_sum : ((warehouse : ℕ) (row : Warehouse) → map.get (database scale rows).warehouses warehouse ≡ Some row
        → row.ytd ≡ sum_rows (of_warehouse f warehouse) (map.from_entries {R = district_cmp} (zip (district_keys scale) xs)))
        ↔ EachPlace (λ n row. row.ytd ≡ sum_of f (take 10 (drop (10 * n) xs))) rows.warehouses.items
    warehouses_sum =
        let even : length rows.warehouses.items ≡ length (warehouse_ids scale) = fits.counts.warehouses ∙ sym (length-warehouse_ids scale) in
        both_ways
        (each-dense nat_cmp_total nat_cmp-IsAntisymmetric (λ warehouse row. row.ytd ≡ sum_rows (of_warehouse f warehouse) (map.from_entries {R = district_cmp} (zip (district_keys scale) xs)))
        (warehouse_ids scale) rows.warehouses.items even (λ n. 1 + n) (placed_warehouse scale))
        (same_each _ _ rows.warehouses.items (λ n row below. same_value row.ytd _ _ (sum_there n (omega (arith, fits.counts.warehouses)))))

  pub warehouses_add_up : WarehousesSumDistricts (database scale rows) ↔ EachPlace (WarehouseAddsUp rows) rows.warehouses.items
  warehouses_add_up = warehouses_sum (λ (district : District). district.ytd) rows.districts.items

  pub warehouses_paid : WarehousesSumPayments (database scale rows) ↔ EachPlace (WarehouseIsPaid rows) rows.warehouses.items
  warehouses_paid = warehouses_sum amounts_of rows.histories.items
