-- The tables of a population are those that the benchmark begins with.
use Rattle.std.proofs.Common.{◌≡◌, ℕ, ◌+◌, ◌-◌, ◌*◌, ◌/◌, ◌≤◌, true, cond, length, Some, None, refl, sym, ap, ◌∙◌, arith}
use Rattle.std.proofs.lemmas.Bool.Decides.{nat_tests}
use Rattle.std.proofs.lemmas.List.{length-map}
use Rattle.std.proofs.lemmas.List.FromFn.{length-range_with_len}
use Rattle.std.specs.List.{range_with_len, slice_get}
use Rattle.std.specs.Option.{option_and_then}
use Rattle.std.specs.FinMap.{nat_cmp-IsAntisymmetric}
use Rattle.std.specs.FinMap as table
use Rattle.std.specs.Cmp.{nat_cmp_total}
use Rattle.rows.specs.declared.keys.OrderKey.{OrderKey}
use Rattle.rows.specs.declared.records.Order.{Order}
use Rattle.rows.specs.declared.records.NewOrder.{NewOrder}
use Rattle.schema.specs.declared.scale.Scale.{Scale}
use Rattle.schema.specs.declared.table_rows.TableRows.{TableRows}
use Rattle.schema.specs.Scale.{has_item, item_ids, item_slot, warehouse_ids, stock_keys}
use Rattle.schema.specs.Rows.{database}
use Rattle.schema.specs.Consistency.{orders_of, new_orders_of, OrdersAreFresh}
use Rattle.schema.proofs.KeyOrders.{stocks_total, stocks_exact}
use Rattle.schema.proofs.Places.{get-dense}
use Rattle.schema.proofs.ScalePlaces.{item_place}
use Rattle.population.specs.Profile.{delivered_orders}
use Rattle.population.specs.Rows.{IsOpeningItem, IsOpeningWarehouse, IsOpeningStock}
use Rattle.population.specs.Drawn.{IsFirstDrawn}
use Rattle.population.specs.Population.{IsOpening}
use Rattle.population.specs.Filled.{IsPopulated}
use Rattle.population.proofs.Populated.{dense_found, fits, list_of, order_row, line_row}
use Rattle.population.proofs.Consistent.{consistent}
use Rattle.population.proofs.ConditionsPayments.{district_row, district_known, customer_row, each_paid_once}
use Rattle.population.proofs.ConditionsOrders.{lines_numbered, numbers_here, new_here, each_orders_once}

module _ {seed now : ℕ} (scale : Scale) (rows : TableRows) (h : IsPopulated scale seed now rows) where
  -- item 1 is the first row
  first_item : IsFirstDrawn seed (table.get (database scale rows).items 1)
  first_item row found =
      let some : 1 ≤ scale.items = scale.limits.some_item in
      let there : has_item scale 1 ≡ true = grind (arith, nat_tests) in
      let slot : item_slot scale 1 ≡ Some 0 = ap (λ b. cond b (Some 0) None) there in
      h.first_item row (sym (get-dense nat_cmp_total nat_cmp-IsAntisymmetric (item_ids scale) rows.items.items 1
      ∙ ap (option_and_then (slice_get rows.items.items)) (item_place scale 1 ∙ slot)) ∙ found)

  -- of 3,000 orders 900 are new
  fresh : scale.customers ≡ 3000 → OrdersAreFresh (database scale rows)
  fresh full home row found =
      let known = district_known scale rows h home row found in
      let d = delivered_orders scale in
      let orders : length (orders_of (database scale rows) home) ≡ scale.customers =
      sym (length-map (orders_of (database scale rows) home) (λ (e : OrderKey × Order). e.0.o_id)) ∙ ap length (numbers_here scale rows h home known) ∙ length-range_with_len 1 scale.customers in
      let news : length (new_orders_of (database scale rows) home) ≡ 1 + scale.customers - (d + 1) =
      sym (length-map (new_orders_of (database scale rows) home) (λ (e : OrderKey × NewOrder). e.0.o_id)) ∙ ap length (new_here scale rows h home known) ∙ length-range_with_len (d + 1) (1 + scale.customers - (d + 1)) in
      let delivered : d ≡ 2100 = ap (λ n. n - n * 3 / 10) full in
      omega arith

  pub opening : IsOpening scale seed now (database scale rows)
  opening = record {
    of_scale = refl;
    within = (fits scale rows h).within;
    first_item = first_item;
    items = dense_found nat_cmp_total nat_cmp-IsAntisymmetric IsOpeningItem (item_ids scale) rows.items.items h.item_rows;
    warehouses = dense_found nat_cmp_total nat_cmp-IsAntisymmetric (IsOpeningWarehouse scale) (warehouse_ids scale) rows.warehouses.items h.warehouse_rows;
    districts = district_row scale rows h;
    stocks = dense_found stocks_total stocks_exact IsOpeningStock (stock_keys scale) rows.stocks.items h.stock_rows;
    customers = customer_row scale rows h;
    payments = list_of scale rows h;
    orders = order_row scale rows h;
    lines = line_row scale rows h;
    line_numbers = lines_numbered scale rows h;
    new_orders = λ home known. new_here scale rows h home known
        ∙ ap (range_with_len (delivered_orders scale + 1)) (let e : 1 + scale.customers - (delivered_orders scale + 1) ≡ scale.customers - delivered_orders scale = omega arith in e);
    orders_once = each_orders_once scale rows h;
    paid_once = each_paid_once scale rows h;
    consistent = consistent scale rows h;
    fresh = fresh;
  }
