-- The numbers, the lines and the customers of orders: conditions 2 to 7.
use Rattle.std.proofs.Common.{◌≡◌, ◌↔◌, ℕ, ◌+◌, ◌-◌, ◌*◌, ◌<◌, ◌≤◌, Bool, true, false, ◌&&◌, ◌==◌, nat_lt, List, [], ◌∷◌, length, map, sum, get_or, IsTrue, is_some, refl, sym, ap, subst, ◌∙◌, arith}
use Rattle.std.proofs.lemmas.Bool.{and_from}
use Rattle.std.proofs.lemmas.Bool.Decides.{nat_tests}
use Rattle.std.proofs.lemmas.List.Elements.{All-from_recursion, All-get_or, filter_agree}
use Rattle.std.proofs.lemmas.Option.{slice_get-get_or}
use Rattle.std.specs.List.{filter, list_any, range_with_len}
use Rattle.std.specs.Cmp.{eq_by_cmp_equiv}
use Rattle.std.specs.List.Sorted.{IsPermutation}
use Rattle.std.specs.Map.{keys_of}
use Rattle.std.specs.declared.cmp.Ordering.{Ordering}
use Rattle.std.specs.declared.cmp.Ordering.TheVariants.{Less, Equal, Greater}
use Rattle.std.specs.Ordering.{eq_by_cmp, is_eq, nat_cmp, ordering_then}
use Rattle.std.specs.FinMap as table
use Rattle.std.specs.FinMap.{get-from_entries}
use Rattle.rows.specs.declared.keys.DistrictKey.{DistrictKey}
use Rattle.rows.specs.declared.keys.OrderKey.{OrderKey}
use Rattle.rows.specs.declared.keys.OrderLineKey.{OrderLineKey}
use Rattle.rows.specs.declared.records.Order.{Order}
use Rattle.rows.specs.declared.records.NewOrder.{NewOrder}
use Rattle.rows.specs.declared.records.OrderLine.{OrderLine}
use Rattle.rows.specs.Keys.{order_cmp, line_cmp, order_of_line}
use Rattle.schema.specs.declared.scale.Scale.{Scale}
use Rattle.schema.specs.declared.table_rows.TableRows.{TableRows}
use Rattle.schema.specs.Scale.{has_district}
use Rattle.schema.specs.Database.{is_of_district, is_of_order}
use Rattle.schema.specs.OrderRows.{line_key}
use Rattle.schema.specs.Rows.{database}
use Rattle.schema.specs.Consistency.{orders_of, new_orders_of, numbers, greatest, NextOrdersFollow, NewOrdersHaveNoGap, DistrictsCountLines, NewOrdersHaveNoCarrier, OrdersCountLines, LinesComeWithOrders}
use Rattle.schema.proofs.KeyOrders.{orders_total, orders_exact, lines_total, lines_exact}
use Rattle.schema.proofs.OrderedParts.{entries-ordered}
use Rattle.population.specs.Profile.{delivered_orders}
use Rattle.population.specs.Book.{Owned, owned, owned_by, owned_from}
use Rattle.population.specs.Population.{EachOrdersOnce, HasLinesInTurn}
use Rattle.population.proofs.Owned.{home_at, owners_count}
use Rattle.population.proofs.Blocks.{block, numbers_by, owners_by, kept_mapped}
use Rattle.population.proofs.Numbers.{no_gap, above, kept_keys, new_of_district, greatest_next, last_next}
use Rattle.population.proofs.Found.{contains_is}
use Rattle.population.proofs.LineCounts.{lines_counted, kept_lines, one_kept}
use Rattle.population.proofs.LineNumbers.{same_number, numbered_in}
use Rattle.population.specs.Filled.{IsPopulated}
use Rattle.population.proofs.Populated.{order_row, line_row, new_contained}
use Rattle.population.proofs.ConditionsPayments.{district_row, district_known}

then_equal : (x y : Ordering) → is_eq (ordering_then x y) ≡ (is_eq x && is_eq y)
then_equal Less y = refl
then_equal Equal y = refl
then_equal Greater y = refl

-- a line is of the order whose key it has
same_order : (key : OrderKey) (line : OrderLineKey) → is_of_order key line ≡ eq_by_cmp order_cmp key (order_of_line line)
same_order key line =
    sym (then_equal (nat_cmp key.w_id line.w_id) (ordering_then (nat_cmp key.d_id line.d_id) (nat_cmp key.o_id line.o_id))
    ∙ ap (λ b. is_eq (nat_cmp key.w_id line.w_id) && b) (then_equal (nat_cmp key.d_id line.d_id) (nat_cmp key.o_id line.o_id))
    ∙ ap (λ b. b && (is_eq (nat_cmp key.d_id line.d_id) && is_eq (nat_cmp key.o_id line.o_id))) (same_number key.w_id line.w_id)
    ∙ ap (λ b. (line.w_id == key.w_id) && (b && is_eq (nat_cmp key.o_id line.o_id))) (same_number key.d_id line.d_id)
    ∙ ap (λ b. (line.w_id == key.w_id) && ((line.d_id == key.d_id) && b)) (same_number key.o_id line.o_id))

-- what is below, by the test
below_test : (d n : ℕ) → (d < n) ↔ IsTrue (nat_lt d n)
below_test d n = (λ h. grind (arith, nat_tests), λ h. grind (arith, nat_tests))

first : (b c : Bool) → (b && c) ≡ true → b ≡ true
first true c h = refl
first false c h = h

known_place : (scale : Scale) (home : DistrictKey) → IsTrue (has_district scale home) → (home.w_id - 1) * 10 + (home.d_id - 1) < scale.warehouses * 10
known_place scale home known =
    let low : 1 ≤ home.w_id = grind (arith, nat_tests) in
    let high : home.w_id ≤ scale.warehouses = grind (arith, nat_tests) in
    let some : 1 ≤ home.d_id = grind (arith, nat_tests) in
    let few : home.d_id ≤ 10 = grind (arith, nat_tests) in
    omega arith

module _ {seed now : ℕ} (scale : Scale) (rows : TableRows) (h : IsPopulated scale seed now rows) where
  -- ---- the orders of a district

  module _ (home : DistrictKey) (known : IsTrue (has_district scale home)) where
    shuffled_here : IsPermutation (range_with_len 1 scale.customers) (get_or h.filled.owners ((home.w_id - 1) * 10 + (home.d_id - 1)) [])
    shuffled_here =
        All-get_or (IsPermutation (range_with_len 1 scale.customers)) h.filled.owners ((home.w_id - 1) * 10 + (home.d_id - 1)) []
        (omega (arith, known_place scale home known, h.filled.owners_count))
        (All-from_recursion (IsPermutation (range_with_len 1 scale.customers)) h.filled.owners h.filled.permuted)

    owned_here : filter (λ o. is_of_district home o.0) (map owned rows.orders.entries) ≡ owned_by home 1 (get_or h.filled.owners ((home.w_id - 1) * 10 + (home.d_id - 1)) [])
    owned_here =
        let place = (home.w_id - 1) * 10 + (home.d_id - 1) in
        let below : place < length h.filled.owners = omega (arith, known_place scale home known, h.filled.owners_count) in
        let os = get_or h.filled.owners place [] in
        ap (filter (λ (o : Owned). is_of_district home o.0)) h.filled.owned
        ∙ subst (λ (at : DistrictKey). filter (λ (o : Owned). is_of_district at o.0) (owned_from 0 h.filled.owners) ≡ owned_by at 1 os) (home_at home scale.warehouses known)
        (block place 0 place h.filled.owners os (omega arith) (slice_get-get_or h.filled.owners place [] below))

    orders_here : orders_of (database scale rows) home ≡ filter (λ e. is_of_district home e.0) rows.orders.entries
    orders_here = ap (filter (λ (e : OrderKey × Order). is_of_district home e.0)) (entries-ordered orders_total rows.orders.entries h.filled.book.orders_ordered)

    pub numbers_here : numbers (orders_of (database scale rows) home) ≡ range_with_len 1 scale.customers
    numbers_here =
        let os = get_or h.filled.owners ((home.w_id - 1) * 10 + (home.d_id - 1)) [] in
        ap (λ (l : List (OrderKey × Order)). map (λ row. row.0.o_id) l) orders_here
        ∙ kept_mapped (λ o. o.0.o_id) home rows.orders.entries
        ∙ ap (λ (l : List Owned). map (λ o. o.0.o_id) l) owned_here
        ∙ numbers_by home 1 os
        ∙ ap (range_with_len 1) (owners_count scale.customers os shuffled_here)

    pub customers_here : map (λ order. order.1.c_id) (orders_of (database scale rows) home) ≡ get_or h.filled.owners ((home.w_id - 1) * 10 + (home.d_id - 1)) []
    customers_here =
        ap (λ (l : List (OrderKey × Order)). map (λ order. order.1.c_id) l) orders_here
        ∙ kept_mapped (λ o. o.1) home rows.orders.entries
        ∙ ap (λ (l : List Owned). map (λ o. o.1) l) owned_here
        ∙ owners_by home 1 (get_or h.filled.owners ((home.w_id - 1) * 10 + (home.d_id - 1)) [])

    keys_here : map (λ key. key.o_id) (filter (is_of_district home) (keys_of rows.orders.entries)) ≡ range_with_len 1 scale.customers
    keys_here =
        sym (kept_keys home rows.orders.entries)
        ∙ ap (λ (l : List (OrderKey × Order)). map (λ row. row.0.o_id) l) (sym orders_here)
        ∙ numbers_here

    pub new_here : numbers (new_orders_of (database scale rows) home) ≡ range_with_len (delivered_orders scale + 1) (1 + scale.customers - (delivered_orders scale + 1))
    new_here =
        ap (λ (l : List (OrderKey × NewOrder)). map (λ row. row.0.o_id) (filter (λ e. is_of_district home e.0) l)) (entries-ordered orders_total rows.new_orders.entries h.filled.book.new_orders_ordered)
        ∙ kept_keys home rows.new_orders.entries
        ∙ ap (λ l. map (λ key. key.o_id) (filter (is_of_district home) l)) h.filled.book.new_keys
        ∙ new_of_district scale home (keys_of rows.orders.entries)
        ∙ ap (filter (nat_lt (delivered_orders scale))) keys_here
        ∙ above (delivered_orders scale) 1 scale.customers (omega arith)

  -- ---- 2 and 3

  delivered_few : delivered_orders scale + 1 ≤ scale.customers + 1
  delivered_few = omega arith

  pub next_orders : NextOrdersFollow (database scale rows)
  next_orders home row found =
      let known = district_known scale rows h home row found in
      let next : row.next_o_id ≡ scale.customers + 1 = (district_row scale rows h home row found).next_o_id in
      let d = delivered_orders scale in
      let some : 1 ≤ scale.customers = scale.limits.some_customer in (
        next ∙ sym (ap (λ l. greatest l + 1) (numbers_here home known) ∙ greatest_next 1 scale.customers some ∙ (let e : 1 + scale.customers ≡ scale.customers + 1 = omega arith in e)),
        λ there. next ∙ sym (last_next (λ (e : OrderKey × NewOrder). e.0.o_id) (new_orders_of (database scale rows) home) (d + 1) (1 + scale.customers - (d + 1)) (new_here home known) there
            ∙ (let e : d + 1 + (1 + scale.customers - (d + 1)) ≡ scale.customers + 1 = omega (arith, delivered_few) in e)),
      )

  pub no_gaps : NewOrdersHaveNoGap (database scale rows)
  no_gaps home row found first others is =
      let d = delivered_orders scale in
      no_gap (d + 1) (1 + scale.customers - (d + 1)) first others (sym (new_here home (district_known scale rows h home row found)) ∙ is)

  -- ---- 4 and 6

  counted : (test : OrderKey → Bool) → length (filter (λ e. test (order_of_line e.0)) rows.lines) ≡ sum (map (λ e. e.1.ol_cnt) (filter (λ e. test e.0) rows.orders.entries))
  counted test =
      kept_lines (λ key. test (order_of_line key)) rows.lines
      ∙ ap (λ l. length (filter (λ key. test (order_of_line key)) l)) h.filled.book.line_keys
      ∙ lines_counted test rows.orders.entries

  pub district_lines_counted : DistrictsCountLines (database scale rows)
  district_lines_counted home row found =
      let orders = entries-ordered orders_total rows.orders.entries h.filled.book.orders_ordered in
      let lines = entries-ordered lines_total rows.lines h.filled.book.lines_ordered in
      ap (λ (l : List (OrderKey × Order)). sum (map (λ order. order.1.ol_cnt) (filter (λ e. is_of_district home e.0) l))) orders
      ∙ sym (counted (is_of_district home))
      ∙ ap (λ (l : List (OrderLineKey × OrderLine)). length (filter (λ e. is_of_district home (order_of_line e.0)) l)) (sym lines)

  pub order_lines_counted : OrdersCountLines (database scale rows)
  order_lines_counted key row found =
      let lines = entries-ordered lines_total rows.lines h.filled.book.lines_ordered in
      let test = eq_by_cmp order_cmp key in
      let one : filter (λ (e : OrderKey × Order). eq_by_cmp order_cmp key e.0) rows.orders.entries ≡ (key, row) ∷ [] =
      one_kept orders_total orders_exact key row rows.orders.entries h.filled.book.orders_ordered (sym (get-from_entries orders_total rows.orders.entries key) ∙ found) in
      (let alone : row.ol_cnt ≡ sum (row.ol_cnt ∷ []) = omega arith in alone)
      ∙ ap (λ (l : List (OrderKey × Order)). sum (map (λ e. e.1.ol_cnt) l)) (sym one)
      ∙ sym (counted test)
      ∙ ap length (filter_agree (λ (e : OrderLineKey × OrderLine). eq_by_cmp order_cmp key (order_of_line e.0)) (λ e. is_of_order key e.0) (λ e. sym (same_order key e.0)) rows.lines)
      ∙ ap (λ (l : List (OrderLineKey × OrderLine)). length (filter (λ e. is_of_order key e.0) l)) (sym lines)

  pub lines_numbered : HasLinesInTurn (database scale rows)
  lines_numbered key row found number =
      let one : filter (λ (e : OrderKey × Order). eq_by_cmp order_cmp key e.0) rows.orders.entries ≡ (key, row) ∷ [] =
      one_kept orders_total orders_exact key row rows.orders.entries h.filled.book.orders_ordered (sym (get-from_entries orders_total rows.orders.entries key) ∙ found) in
      contains_is lines_total lines_exact rows.lines (line_key key number)
      ∙ ap (list_any (eq_by_cmp line_cmp (line_key key number))) h.filled.book.line_keys
      ∙ numbered_in key row number rows.orders.entries ((eq_by_cmp_equiv orders_total).refl key) one

  -- ---- 5 and 7

  pub new_orders_wait : NewOrdersHaveNoCarrier (database scale rows)
  new_orders_wait key row found =
      let is = order_row scale rows h key row found in
      let there : table.contains_key (database scale rows).orders key ≡ true = ap is_some found in
      let test = below_test (delivered_orders scale) key.o_id in (
        λ none. new_contained scale rows h key ∙ and_from _ _ (test.0 (is.carrier.0 none)) there,
        λ listed. is.carrier.1 (test.1 (first _ _ (sym (new_contained scale rows h key) ∙ listed))),
      )

  pub lines_come : LinesComeWithOrders (database scale rows)
  lines_come key line order found there =
      let of_line = (line_row scale rows h key line found).delivery in
      let of_order = (order_row scale rows h (order_of_line key) order there).carrier in
      (λ none. of_order.1 (of_line.0 none), λ none. of_line.1 (of_order.0 none))

  -- ---- each customer orders once

  pub each_orders_once : EachOrdersOnce (database scale rows)
  each_orders_once home known = record {
    numbered = numbers_here home known;
    shuffled = subst (IsPermutation (range_with_len 1 scale.customers)) (sym (customers_here home known)) (shuffled_here home known);
  }
