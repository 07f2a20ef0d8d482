-- What districts and customers paid, and what they owe: conditions 1, 8, 9, 10 and 12.
use Rattle.std.proofs.Common.{◌≡◌, ◌≢◌, ℕ, ◌+◌, ◌-◌, ◌*◌, ◌<◌, ◌≤◌, Bool, true, false, cond, ◌&&◌, ◌==◌, List, [], length, take, drop, Option, Some, None, IsTrue, is_some, unwrap_or, refl, sym, ap, ◌∙◌, arith, length-drop}
use Rattle.std.proofs.lemmas.Int.{ints}
use Rattle.std.proofs.lemmas.Bool.Decides.{nat_tests}
use Rattle.std.proofs.lemmas.List.{length-take-le}
use Rattle.std.proofs.lemmas.List.Elements.{All-take, All-drop, All-weaker, recursion_from_All}
use Rattle.std.proofs.lemmas.Option.{slice_get-get_or, slice_get_within}
use Rattle.std.specs.Prelude.{ℤ, pos, negsuc, ◌+ℤ◌, ◌-ℤ◌}
use Rattle.std.specs.List.{All, filter, slice_get}
use Rattle.std.specs.FinMap as table
use Rattle.rows.specs.declared.keys.DistrictKey.{DistrictKey}
use Rattle.rows.specs.declared.keys.CustomerKey.{CustomerKey}
use Rattle.rows.specs.declared.keys.OrderLineKey.{OrderLineKey}
use Rattle.rows.specs.declared.records.Warehouse.{Warehouse}
use Rattle.rows.specs.declared.records.District.{District}
use Rattle.rows.specs.declared.records.Customer.{Customer}
use Rattle.rows.specs.declared.records.OrderLine.{OrderLine}
use Rattle.rows.specs.Keys.{order_of_line}
use Rattle.schema.specs.declared.scale.Scale.{Scale}
use Rattle.schema.specs.declared.table_rows.TableRows.{TableRows}
use Rattle.schema.specs.Scale.{has_district, has_customer, district_keys, customer_keys}
use Rattle.schema.specs.Rows.{database}
use Rattle.schema.specs.Consistency.{amounts_of, is_payer, has_ordered, delivered, paid, WarehousesSumDistricts, WarehousesSumPayments, DistrictsSumPayments, BalancesAreOwed, BalancesArePaid}
use Rattle.schema.proofs.KeyOrders.{districts_total, districts_exact, customers_total, customers_exact, lines_total}
use Rattle.schema.proofs.ScaleRules.{district_keys_are, customer_keys_are, history_keys}
use Rattle.schema.proofs.OrderedParts.{entries-ordered}
use Rattle.schema.proofs.ScalePlaces.{customer_place, length-customer_keys}
use Rattle.schema.specs.Sums.{sum_entries}
use Rattle.consistency.specs.Totals.{sum_of}
use Rattle.consistency.proofs.BalancesPayments.{paid_in}
use Rattle.consistency.proofs.BalancesRows.{paid_is, customer_at, slot-customer_at}
use Rattle.consistency.proofs.TotalsDense.{each-dense}
use Rattle.consistency.proofs.PaymentsRows.{warehouses_add_up, warehouses_paid}
use Rattle.population.specs.Keys.{district_at}
use Rattle.population.specs.Rows.{IsOpeningWarehouse, IsOpeningDistrict, IsOpeningCustomer, IsOpeningLine}
use Rattle.population.specs.Population.{is_home, EachPaidOnce}
use Rattle.population.proofs.Weights.{sum_of_same, sum_of_nothing, sum_of_one}
use Rattle.population.proofs.Payers.{paid_times, paid_amount, all_paid}
use Rattle.population.specs.Filled.{IsPopulated}
use Rattle.population.proofs.Populated.{all_at, dense_found, counts, list_of, fits}

-- what holds at each place holds of each row
each_place : {X : Type 0} (P : X → Type 0) (xs : List X) → ((n : ℕ) (x : X) → slice_get xs n ≡ Some x → P x) → All P xs
each_place P xs h n d below = h n _ (slice_get-get_or xs n d below)

-- a warehouse has ten districts
ten : {X : Type 0} (n warehouses : ℕ) (xs : List X) → length xs ≡ warehouses * 10 → n < warehouses → length (take 10 (drop (10 * n) xs)) ≡ 10
ten n warehouses xs many below = length-take-le 10 (drop (10 * n) xs) (omega (arith, length-drop (10 * n) xs))

-- rows of a warehouse that weigh the same
of_ten : {X : Type 0} (f : X → ℤ) (v n warehouses : ℕ) (xs : List X) → length xs ≡ warehouses * 10 → n < warehouses → All (λ x. f x ≡ pos v) xs
    → sum_of f (take 10 (drop (10 * n) xs)) ≡ pos (v * 10)
of_ten f v n warehouses xs many below each =
    let part = take 10 (drop (10 * n) xs) in
    let P = λ (x : _). f x ≡ pos v in
    sum_of_same f v part (recursion_from_All P part (All-take P 10 (drop (10 * n) xs) (All-drop P (10 * n) xs each)))
    ∙ ap (λ m. pos (v * m)) (ten n warehouses xs many below)

-- ---- the tests of keys

in_scale : (scale : Scale) (key : CustomerKey) → IsTrue (has_customer scale key)
    → (1 ≤ key.w_id) × ((key.w_id ≤ scale.warehouses) × ((1 ≤ key.d_id) × ((key.d_id ≤ 10) × ((1 ≤ key.c_id) × (key.c_id ≤ scale.customers)))))
in_scale scale key h =
    (grind (arith, nat_tests), (grind (arith, nat_tests), (grind (arith, nat_tests), (grind (arith, nat_tests), (grind (arith, nat_tests), grind (arith, nat_tests))))))

home_is_there : (scale : Scale) (key : CustomerKey) (home : DistrictKey) → IsTrue (has_customer scale key) → is_home key home ≡ true → has_district scale home ≡ true
home_is_there scale key home h at = grind (arith, nat_tests)

home_place : (key : CustomerKey) (n : ℕ) → 1 ≤ key.w_id → 1 ≤ key.d_id → key.d_id ≤ 10 → is_home key (district_at n) ≡ (n == (key.w_id - 1) * 10 + (key.d_id - 1))
home_place key n w low high = grind (arith, nat_tests)

-- a line that was not delivered counts for nothing, and so does one that cost nothing
line_nothing : (delivery : Option ℕ) (amount : ℕ) (other : Bool) → (delivery ≢ None → amount ≡ 0) → cond (is_some delivery && other) (pos amount) (pos 0) ≡ pos 0
line_nothing None amount other h = refl
line_nothing (Some moment) amount false h = refl
line_nothing (Some moment) amount true h = ap pos (h (λ e. absurd cc))

module _ {seed now : ℕ} (scale : Scale) (rows : TableRows) (h : IsPopulated scale seed now rows) where
  -- ---- 1 and 8

  districts_same : All (λ (row : District). row.ytd ≡ pos (1000 * scale.customers)) rows.districts.items
  districts_same = All-weaker (IsOpeningDistrict scale) (λ (row : District). row.ytd ≡ pos (1000 * scale.customers)) (λ row is. is.ytd) rows.districts.items h.filled.district_rows

  lists_same : All (λ list. amounts_of list ≡ pos (1000 * scale.customers)) rows.histories.items
  lists_same = each_place (λ list. amounts_of list ≡ pos (1000 * scale.customers)) rows.histories.items
      (λ n list found. all_paid (district_at n) scale.customers list (h.filled.payments n list found))

  ten_times : 10000 * scale.customers ≡ 1000 * scale.customers * 10
  ten_times = grind arith

  warehouse_at : (n : ℕ) (row : Warehouse) → slice_get rows.warehouses.items n ≡ Some row → (n < scale.warehouses) × (row.ytd ≡ pos (1000 * scale.customers * 10))
  warehouse_at n row found = (
    omega (arith, slice_get_within rows.warehouses.items n row found, h.warehouses),
    (all_at (IsOpeningWarehouse scale) rows.warehouses.items h.warehouse_rows n row found).ytd ∙ ap pos ten_times,
  )

  pub sums_of_districts : WarehousesSumDistricts (database scale rows)
  sums_of_districts = (warehouses_add_up scale rows (fits scale rows h)).1 (λ n row found.
      let at = warehouse_at n row found in
      at.1 ∙ sym (of_ten (λ (district : District). district.ytd) (1000 * scale.customers) n scale.warehouses rows.districts.items h.filled.districts_count at.0 districts_same))

  pub sums_of_payments : WarehousesSumPayments (database scale rows)
  sums_of_payments = (warehouses_paid scale rows (fits scale rows h)).1 (λ n row found.
      let at = warehouse_at n row found in
      at.1 ∙ sym (of_ten amounts_of (1000 * scale.customers) n scale.warehouses rows.histories.items h.filled.histories_count at.0 lists_same))

  -- ---- 9

  pub district_row : (home : DistrictKey) (row : District) → table.get (database scale rows).districts home ≡ Some row → IsOpeningDistrict scale row
  district_row = dense_found districts_total districts_exact (IsOpeningDistrict scale) (district_keys scale) rows.districts.items h.filled.district_rows

  pub district_known : (home : DistrictKey) (row : District) → table.get (database scale rows).districts home ≡ Some row → IsTrue (has_district scale home)
  district_known home row found = sym (district_keys_are scale rows (counts scale rows h) home) ∙ ap is_some found

  list_there : (home : DistrictKey) → IsTrue (has_district scale home) → table.get (database scale rows).histories home ≡ None → ⊥
  list_there home known none =
      let there : true ≡ false = sym known ∙ sym (history_keys scale rows (counts scale rows h) home) ∙ ap is_some none in
      cc

  pub district_payments : DistrictsSumPayments (database scale rows)
  district_payments home row found =
      elim (table.get (database scale rows).histories home) as (λ r. table.get (database scale rows).histories home ≡ r → row.ytd ≡ amounts_of (unwrap_or r [])) [
        | None ↦ λ none. absurd (list_there home (district_known home row found) none)
        | Some list ↦ λ there. (district_row home row found).ytd ∙ sym (all_paid home scale.customers list (list_of scale rows h home list there))
      ] refl

  -- ---- 10 and 12

  pub customer_row : (key : CustomerKey) (row : Customer) → table.get (database scale rows).customers key ≡ Some row → IsOpeningCustomer now key.c_id row
  customer_row =
      (each-dense customers_total customers_exact (λ key row. IsOpeningCustomer now key.c_id row) (customer_keys scale) rows.customers.items
      (h.filled.customers_count ∙ sym (length-customer_keys scale)) (customer_at scale)
      (λ n below. customer_place scale (customer_at scale n) ∙ slot-customer_at scale n (omega (arith, length-customer_keys scale)))).1 h.filled.customer_rows

  customer_known : (key : CustomerKey) (row : Customer) → table.get (database scale rows).customers key ≡ Some row → IsTrue (has_customer scale key)
  customer_known key row found = sym (customer_keys_are scale rows (counts scale rows h) key) ∙ ap is_some found

  nothing_delivered : (key : CustomerKey) → delivered (database scale rows) key ≡ pos 0
  nothing_delivered key =
      let weight = λ (k : OrderLineKey) (line : OrderLine). cond (is_some line.delivery_d && has_ordered (database scale rows) key (order_of_line k)) (pos line.amount) (pos 0) in
      let each : All (λ (e : OrderLineKey × OrderLine). weight e.0 e.1 ≡ pos 0) rows.lines =
      All-weaker (λ (e : OrderLineKey × OrderLine). IsOpeningLine scale now e.0 e.1) (λ (e : OrderLineKey × OrderLine). weight e.0 e.1 ≡ pos 0)
      (λ e is. line_nothing e.1.delivery_d e.1.amount (has_ordered (database scale rows) key (order_of_line e.0)) is.amount) rows.lines h.filled.book.line_rows in
      ap (sum_entries weight) (entries-ordered lines_total rows.lines h.filled.book.lines_ordered)
      ∙ sum_of_nothing weight rows.lines (recursion_from_All (λ (e : OrderLineKey × OrderLine). weight e.0 e.1 ≡ pos 0) rows.lines each)

  paid_in_all : (key : CustomerKey) → IsTrue (has_customer scale key) → paid (database scale rows) key ≡ pos 1000
  paid_in_all key known =
      let at = in_scale scale key known in
      let some_warehouse : 1 ≤ key.w_id = at.0 in
      let few_warehouses : key.w_id ≤ scale.warehouses = at.1.0 in
      let some_district : 1 ≤ key.d_id = at.1.1.0 in
      let few_districts : key.d_id ≤ 10 = at.1.1.1.0 in
      let m = (key.w_id - 1) * 10 + (key.d_id - 1) in
      let below : m < length rows.histories.items = omega (arith, h.filled.histories_count) in
      sym (paid_is scale rows (fits scale rows h) key)
      ∙ sum_of_one (paid_in key) 1000 m rows.histories.items below (λ n list found.
      paid_amount key (district_at n) scale.customers list at.1.1.1.1.0 at.1.1.1.1.1 (h.filled.payments n list found)
      ∙ ap (λ b. pos (cond b 1000 0)) (home_place key n some_warehouse some_district few_districts))

  pub balances_owed : BalancesAreOwed (database scale rows)
  balances_owed key row found =
      let balance : row.balance ≡ negsuc 999 = (customer_row key row found).balance in
      let nothing : delivered (database scale rows) key ≡ pos 0 = nothing_delivered key in
      let once : paid (database scale rows) key ≡ pos 1000 = paid_in_all key (customer_known key row found) in
      balance ∙ (let e : negsuc 999 ≡ (pos 0 -ℤ pos 1000) = omega (arith, ints) in e)
      ∙ ap (λ z. z -ℤ pos 1000) (sym nothing) ∙ ap (λ z. delivered (database scale rows) key -ℤ z) (sym once)

  pub balances_paid : BalancesArePaid (database scale rows)
  balances_paid key row found =
      let is = customer_row key row found in
      ap (λ z. z +ℤ row.ytd_payment) is.balance ∙ ap (λ z. negsuc 999 +ℤ z) is.ytd_payment
      ∙ (let e : (negsuc 999 +ℤ pos 1000) ≡ pos 0 = omega (arith, ints) in e) ∙ sym (nothing_delivered key)

  -- ---- each customer paid once

  pub each_paid_once : EachPaidOnce (database scale rows)
  each_paid_once customer known home =
      let at = in_scale scale customer known in
      elim (table.get (database scale rows).histories home) as (λ r. table.get (database scale rows).histories home ≡ r → length (filter (is_payer customer) (unwrap_or r [])) ≡ cond (is_home customer home) 1 0) [
        | None ↦ λ none.
            elim (is_home customer home) as (λ b. is_home customer home ≡ b → length (filter (is_payer customer) []) ≡ cond b 1 0) [
              | true ↦ λ t. absurd (list_there home (home_is_there scale customer home known t) none)
              | false ↦ λ t. refl
            ] refl
        | Some list ↦ λ there. paid_times customer home scale.customers list at.1.1.1.1.0 at.1.1.1.1.1 (list_of scale rows h home list there)
      ] refl
