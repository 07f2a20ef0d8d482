-- An order that is placed keeps the tables consistent, condition by condition.
use Rattle.std.proofs.Common.{◌≡◌, ◌≢◌, ◌↔◌, ℕ, ◌+◌, Bool, true, false, cond, ◌&&◌, ◌==◌, List, [], ◌∷◌, map, length, max, sum, Option, Some, None, IsTrue, is_some, refl, sym, ap, subst, ◌∙◌, arith}
use Rattle.std.specs.Prelude.{ℤ, pos, ◌+ℤ◌, ◌-ℤ◌}
use Rattle.std.specs.List.{AllByRecursion, filter}
use Rattle.std.proofs.lemmas.Int.{ints}
use Rattle.std.proofs.lemmas.Bool.Decides.{nat_tests}
use Rattle.std.specs.FinMap as table
use Rattle.std.specs.FinMap.{entries, get-entries}
use Rattle.std.specs.FinMap.Entries.{find, find-where_key}
use Rattle.rows.specs.Keys.{line_cmp, order_of_line}
use Rattle.rows.specs.declared.keys.DistrictKey.{DistrictKey}
use Rattle.rows.specs.declared.keys.CustomerKey.{CustomerKey}
use Rattle.rows.specs.declared.keys.OrderKey.{OrderKey}
use Rattle.rows.specs.declared.keys.OrderLineKey.{OrderLineKey}
use Rattle.rows.specs.declared.records.District.{District}
use Rattle.rows.specs.declared.records.Order.{Order}
use Rattle.rows.specs.declared.records.NewOrder.{NewOrder as NewOrderRow}
use Rattle.rows.specs.declared.records.OrderLine.{OrderLine}
use Rattle.schema.specs.Sums.{weight_at, sum_entries, sum_rows}
use Rattle.schema.specs.Database.{Database, is_of_district, is_of_order, list_at}
use Rattle.schema.specs.Consistency.{Consistent, amounts_of, greatest, least, numbers, orders_of, new_orders_of, district_lines, lines_of, has_ordered, delivered, paid, HasNoGap, NextOrderFollows, CountsLines, WarehousesSumDistricts, NextOrdersFollow, NewOrdersHaveNoGap, DistrictsCountLines, NewOrdersHaveNoCarrier, OrdersCountLines, LinesComeWithOrders, DistrictsSumPayments, BalancesAreOwed, BalancesArePaid}
use Rattle.schema.specs.OrderRows.{line_key}
use Rattle.schema.proofs.KeyOrders.{districts_total, districts_exact, orders_total, orders_exact, lines_exact}
use Rattle.requests.specs.declared.new_order.NewOrder.{NewOrder}
use Rattle.machine.specs.NewOrder.{placed, order_row, order_key}
use Rattle.machine.proofs.TableChanges.{get-insert_here, get-insert_elsewhere, each_row-insert, sum_rows-grow}
use Rattle.machine.proofs.RowsAdded.{IsAdded, has_no_gap, added-insert, added-filter_inside, added-filter_outside, added-map, sum_by-added, greatest-added, gap-added}
use Rattle.machine.proofs.LinesOfOrders.{order_is, no_lines_yet}
use Rattle.machine.proofs.LinesPut.{HasNone, rows-with_lines_inside, rows-with_lines_outside, sum_rows-with_lines, each_row-with_lines}
use Rattle.machine.proofs.FreeNumbers.{own_district, other_district, free_number}

no_gap_at : (ns : List ℕ) → ((first : ℕ) (others : List ℕ) → ns ≡ first ∷ others → greatest (first ∷ others) + 1 ≡ least first others + length (first ∷ others)) → has_no_gap ns
no_gap_at [] h = tt
no_gap_at (n ∷ ns) h = h n ns refl

no_gap_from : (ns : List ℕ) → has_no_gap ns → (first : ℕ) (others : List ℕ) → ns ≡ first ∷ others → greatest (first ∷ others) + 1 ≡ least first others + length (first ∷ others)
no_gap_from ns h first others e = subst has_no_gap e h

-- the number that follows the greatest, where there is one, is the greatest from then on
now_greatest : (next : ℕ) (ns : List ℕ) → (ns ≢ [] → next ≡ greatest ns + 1) → max next (greatest ns) ≡ next
now_greatest next [] follows = omega arith
now_greatest next (n ∷ ns) follows =
    let is : next ≡ greatest (n ∷ ns) + 1 = follows (λ e. absurd cc) in
    omega arith

-- a line of an order is of that order, and of no other
own_order : (order : OrderKey) (number : ℕ) → is_of_order order (line_key order number) ≡ true
own_order order number = grind (arith, nat_tests)

other_order : (other order : OrderKey) (number : ℕ) → other ≢ order → is_of_order other (line_key order number) ≡ false
other_order other order number apart =
    elim (is_of_order other (line_key order number)) as (λ b. is_of_order other (line_key order number) ≡ b → b ≡ false) [
      | true ↦ λ e. absurd (apart (order_is other (line_key order number) e))
      | false ↦ λ e. refl
    ] refl

-- weights that differ only where no row is stored have the same sum
same_weights : {K X : Type 0} (test : K → Bool) (v w : K → X → ℤ) → ((k : K) (x : X) → test k ≡ false → v k x ≡ w k x)
    → (es : List (K × X)) → filter (λ e. test e.0) es ≡ [] → sum_entries v es ≡ sum_entries w es
same_weights test v w same [] none = refl
same_weights test v w same (e ∷ es) none =
    elim (test e.0) as (λ b. test e.0 ≡ b → cond b (e ∷ filter (λ e. test e.0) es) (filter (λ e. test e.0) es) ≡ [] → sum_entries v (e ∷ es) ≡ sum_entries w (e ∷ es)) [
      | true ↦ λ t f. absurd cc
      | false ↦ λ t f. ap (λ z. z +ℤ sum_entries v es) (same e.0 e.1 t) ∙ ap (λ z. w e.0 e.1 +ℤ z) (same_weights test v w same es f)
    ] refl none

-- whether a customer has ordered an order depends on its row alone
has_ordered-same : (s t : Database) (customer : CustomerKey) (key : OrderKey) → table.get s.orders key ≡ table.get t.orders key → has_ordered s customer key ≡ has_ordered t customer key
has_ordered-same s t customer key same =
    elim (table.get t.orders key) as (λ r. table.get t.orders key ≡ r → has_ordered s customer key ≡ has_ordered t customer key) [
      | None ↦ λ e. let there : table.get s.orders key ≡ None = same ∙ e in rw (there, e) refl
      | Some order ↦ λ e. let there : table.get s.orders key ≡ Some order = same ∙ e in rw (there, e) refl
    ] refl

plus_nothing : (z : ℤ) → z ≡ z +ℤ pos 0
plus_nothing z = omega (arith, ints)

-- an order that was placed, with the rows that were put in
module _ (t : Database) (n : NewOrder) (d new_d : District) (rows : List OrderLine)
    (d_is : table.get t.districts n.home ≡ Some d) (d_made : new_d ≡ record d { next_o_id = d.next_o_id + 1 })
    (rows_counted : length rows ≡ length n.lines) (undelivered : AllByRecursion (λ (row : OrderLine). row.delivery_d ≡ None) rows)
    (h : Consistent t) where
  abbrev key : OrderKey
  key = order_key n.home d.next_o_id

  abbrev row : Order
  row = order_row n

  abbrev left : Database
  left = placed t n d.next_o_id new_d rows

  next_is : new_d.next_o_id ≡ d.next_o_id + 1
  next_is = ap (λ (r : District). r.next_o_id) d_made

  of_home : is_of_district n.home key ≡ true
  of_home = own_district n.home d.next_o_id

  elsewhere : (q : DistrictKey) → q ≢ n.home → is_of_district q key ≡ false
  elsewhere q apart = other_district q n.home d.next_o_id apart

  -- ---- no row was stored at the key

  follows : NextOrderFollows t n.home d
  follows = h.next_orders_follow n.home d d_is

  no_order : table.get t.orders key ≡ None
  no_order = free_number t.orders n.home d.next_o_id (λ some. follows.0)

  no_new_order : table.get t.new_orders key ≡ None
  no_new_order = free_number t.new_orders n.home d.next_o_id follows.1

  no_lines : lines_of t key ≡ []
  no_lines = no_lines_yet t.orders t.lines n.home key row of_home no_order (h.districts_count_lines n.home d d_is) h.orders_count_lines

  not_there : (q : OrderLineKey) → is_of_order key q ≡ true → table.get t.lines q ≡ None
  not_there q passes =
      let test = is_of_order key in
      let es = entries t.lines in
      get-entries t.lines q
      ∙ sym (ap (λ b. cond b (find line_cmp q es) None) passes)
      ∙ sym (find-where_key line_cmp test q (λ x tied. ap test (sym (lines_exact q x tied))) es)
      ∙ ap (find line_cmp q) no_lines

  none : HasNone key t.lines
  none number = not_there (line_key key number) (own_order key number)

  -- ---- what is added, and what stays

  abbrev mark : NewOrderRow
  mark = record {}

  more_orders : IsAdded (key, row) (orders_of t n.home) (orders_of left n.home)
  more_orders =
      added-filter_inside (key, row) (entries t.orders) (entries left.orders) (added-insert orders_total t.orders key row no_order)
      (λ e. is_of_district n.home e.0) of_home

  more_new_orders : IsAdded (key, mark) (new_orders_of t n.home) (new_orders_of left n.home)
  more_new_orders =
      added-filter_inside (key, mark) (entries t.new_orders) (entries left.new_orders) (added-insert orders_total t.new_orders key mark no_new_order)
      (λ e. is_of_district n.home e.0) of_home

  same_orders : (q : DistrictKey) → q ≢ n.home → orders_of left q ≡ orders_of t q
  same_orders q apart =
      added-filter_outside (key, row) (entries t.orders) (entries left.orders) (added-insert orders_total t.orders key row no_order)
      (λ e. is_of_district q e.0) (elsewhere q apart)

  same_new_orders : (q : DistrictKey) → q ≢ n.home → new_orders_of left q ≡ new_orders_of t q
  same_new_orders q apart =
      added-filter_outside (key, mark) (entries t.new_orders) (entries left.new_orders) (added-insert orders_total t.new_orders key mark no_new_order)
      (λ e. is_of_district q e.0) (elsewhere q apart)

  same_lines : (q : DistrictKey) → q ≢ n.home → district_lines left q ≡ district_lines t q
  same_lines q apart = rows-with_lines_outside key (λ k. is_of_district q (order_of_line k)) (λ number. elsewhere q apart) 1 rows t.lines none

  more_numbers : IsAdded d.next_o_id (numbers (orders_of t n.home)) (numbers (orders_of left n.home))
  more_numbers = added-map (key, row) (orders_of t n.home) (orders_of left n.home) more_orders (λ e. e.0.o_id)

  more_new_numbers : IsAdded d.next_o_id (numbers (new_orders_of t n.home)) (numbers (new_orders_of left n.home))
  more_new_numbers = added-map (key, mark) (new_orders_of t n.home) (new_orders_of left n.home) more_new_orders (λ e. e.0.o_id)

  new_numbers_follow : numbers (new_orders_of t n.home) ≢ [] → d.next_o_id ≡ greatest (numbers (new_orders_of t n.home)) + 1
  new_numbers_follow some = follows.1 (λ e. some (ap (λ (l : List (OrderKey × NewOrderRow)). numbers l) e))

  same_ytd : new_d.ytd ≡ d.ytd
  same_ytd = ap (λ (r : District). r.ytd) d_made

  -- ---- conditions 1 and 9: D_YTD stays

  warehouses_sum_districts : WarehousesSumDistricts left
  warehouses_sum_districts warehouse r found =
      let share : DistrictKey → District → ℤ = λ q x. cond (q.w_id == warehouse) x.ytd (pos 0) in
      let weighs : share n.home new_d ≡ (weight_at share n.home (table.get t.districts n.home) +ℤ pos 0) =
      ap (λ y. cond (n.home.w_id == warehouse) y (pos 0)) same_ytd
      ∙ plus_nothing (share n.home d)
      ∙ ap (λ o. weight_at share n.home o +ℤ pos 0) (sym d_is) in
      h.warehouses_sum_districts warehouse r found
      ∙ plus_nothing (sum_rows share t.districts)
      ∙ sym (sum_rows-grow districts_total districts_exact share t.districts n.home new_d (pos 0) weighs)

  districts_sum_payments : DistrictsSumPayments left
  districts_sum_payments =
      each_row-insert districts_total districts_exact (λ q r. table.get t.districts q ≡ Some r) (λ q r. r.ytd ≡ amounts_of (list_at t.histories q)) t.districts n.home new_d
      (λ q r found. found) (same_ytd ∙ h.districts_sum_payments n.home d d_is) (λ q r apart found. h.districts_sum_payments q r found)

  -- ---- conditions 2 and 3: the numbers of orders and new orders

  here_follows : NextOrderFollows left n.home new_d
  here_follows =
      let next : new_d.next_o_id ≡ d.next_o_id + 1 = next_is in
      let was : d.next_o_id ≡ greatest (numbers (orders_of t n.home)) + 1 = follows.0 in
      let top : greatest (numbers (orders_of left n.home)) ≡ max d.next_o_id (greatest (numbers (orders_of t n.home))) = greatest-added d.next_o_id _ _ more_numbers in
      let new_top : greatest (numbers (new_orders_of left n.home)) ≡ max d.next_o_id (greatest (numbers (new_orders_of t n.home))) = greatest-added d.next_o_id _ _ more_new_numbers in
      let last : max d.next_o_id (greatest (numbers (new_orders_of t n.home))) ≡ d.next_o_id = now_greatest d.next_o_id (numbers (new_orders_of t n.home)) new_numbers_follow in
      (omega arith, λ some. omega arith)

  next_orders_follow : NextOrdersFollow left
  next_orders_follow =
      each_row-insert districts_total districts_exact (λ q r. table.get t.districts q ≡ Some r) (λ q r. NextOrderFollows left q r) t.districts n.home new_d
      (λ q r found. found) here_follows
      (λ q r apart found.
      let was = h.next_orders_follow q r found in
      let orders = same_orders q apart in
      let new_orders = same_new_orders q apart in
      (was.0 ∙ ap (λ l. greatest (numbers l) + 1) (sym orders), λ some. was.1 (λ e. some (new_orders ∙ e)) ∙ ap (λ l. greatest (numbers l) + 1) (sym new_orders)))

  new_orders_have_no_gap : NewOrdersHaveNoGap left
  new_orders_have_no_gap =
      each_row-insert districts_total districts_exact (λ q r. table.get t.districts q ≡ Some r) (λ q r. HasNoGap left q) t.districts n.home new_d
      (λ q r found. found)
      (no_gap_from (numbers (new_orders_of left n.home))
      (gap-added d.next_o_id (numbers (new_orders_of t n.home)) (numbers (new_orders_of left n.home)) more_new_numbers new_numbers_follow
      (no_gap_at (numbers (new_orders_of t n.home)) (h.new_orders_have_no_gap n.home d d_is))))
      (λ q r apart found first others is.
      h.new_orders_have_no_gap q r found first others (ap (λ (l : List (OrderKey × NewOrderRow)). numbers l) (sym (same_new_orders q apart)) ∙ is))

  -- ---- conditions 4 and 6: the lines of a district and of an order

  here_counts : CountsLines left n.home
  here_counts =
      let counts = λ (l : List (OrderKey × Order)). map (λ (e : OrderKey × Order). e.1.ol_cnt) l in
      let was : sum (counts (orders_of t n.home)) ≡ length (district_lines t n.home) = h.districts_count_lines n.home d d_is in
      let more : sum (counts (orders_of left n.home)) ≡ sum (counts (orders_of t n.home)) + length n.lines =
      sum_by-added (length n.lines) (counts (orders_of t n.home)) (counts (orders_of left n.home))
      (added-map (key, row) (orders_of t n.home) (orders_of left n.home) more_orders (λ e. e.1.ol_cnt)) (λ m. m) in
      let lines : length (district_lines left n.home) ≡ length (district_lines t n.home) + length rows =
      rows-with_lines_inside key (λ k. is_of_district n.home (order_of_line k)) (λ number. of_home) 1 rows t.lines none in
      omega arith

  districts_count_lines : DistrictsCountLines left
  districts_count_lines =
      each_row-insert districts_total districts_exact (λ q r. table.get t.districts q ≡ Some r) (λ q r. CountsLines left q) t.districts n.home new_d
      (λ q r found. found) here_counts
      (λ q r apart found.
      ap (λ (l : List (OrderKey × Order)). sum (map (λ order. order.1.ol_cnt) l)) (same_orders q apart)
      ∙ h.districts_count_lines q r found
      ∙ ap length (sym (same_lines q apart)))

  orders_count_lines : OrdersCountLines left
  orders_count_lines =
      each_row-insert orders_total orders_exact (λ q r. table.get t.orders q ≡ Some r) (λ q r. r.ol_cnt ≡ length (lines_of left q)) t.orders key row
      (λ q r found. found)
      (let lines : length (lines_of left key) ≡ length (lines_of t key) + length rows = rows-with_lines_inside key (is_of_order key) (own_order key) 1 rows t.lines none in
      let had : length (lines_of t key) ≡ 0 = ap length no_lines in
      omega arith)
      (λ q r apart found.
      h.orders_count_lines q r found
      ∙ ap length (sym (rows-with_lines_outside key (is_of_order q) (λ number. other_order q key number apart) 1 rows t.lines none)))

  -- ---- conditions 5 and 7: carriers, new orders and dates of delivery

  order_here : table.get left.orders key ≡ Some row
  order_here = get-insert_here orders_total orders_exact t.orders key row

  order_elsewhere : (q : OrderKey) → q ≢ key → table.get left.orders q ≡ table.get t.orders q
  order_elsewhere q apart = get-insert_elsewhere orders_total orders_exact t.orders key row q apart

  new_orders_have_no_carrier : NewOrdersHaveNoCarrier left
  new_orders_have_no_carrier =
      each_row-insert orders_total orders_exact (λ q r. table.get t.orders q ≡ Some r) (λ q r. (r.carrier_id ≡ None) ↔ IsTrue (table.contains_key left.new_orders q)) t.orders key row
      (λ q r found. found)
      (λ unset. ap is_some (get-insert_here orders_total orders_exact t.new_orders key mark), λ listed. refl)
      (λ q r apart found.
      let was = h.new_orders_have_no_carrier q r found in
      let same : table.contains_key left.new_orders q ≡ table.contains_key t.new_orders q = ap is_some (get-insert_elsewhere orders_total orders_exact t.new_orders key mark q apart) in
      (λ unset. same ∙ was.0 unset, λ listed. was.1 (sym same ∙ listed)))

  -- a line that was stored is of another order
  line_apart : (q : OrderLineKey) → is_of_order key q ≡ false → order_of_line q ≢ key
  line_apart q fails e =
      let own : is_of_order (order_of_line q) q ≡ true = own_order (order_of_line q) q.number in
      let clash : is_of_order key q ≡ true = ap (λ k. is_of_order k q) (sym e) ∙ own in
      absurd cc

  stood_apart : (q : OrderLineKey) (line : OrderLine) → table.get t.lines q ≡ Some line → order_of_line q ≢ key
  stood_apart q line found =
      elim (is_of_order key q) as (λ b. is_of_order key q ≡ b → order_of_line q ≢ key) [
        | true ↦ λ e. let gone = not_there q e in absurd cc
        | false ↦ λ e. line_apart q e
      ] refl

  lines_come_with_orders : LinesComeWithOrders left
  lines_come_with_orders q line order found there =
      each_row-with_lines key (λ (r : OrderLine). r.delivery_d ≡ None)
      (λ q line. (order : Order) → table.get left.orders (order_of_line q) ≡ Some order → (line.delivery_d ≡ None) ↔ (order.carrier_id ≡ None))
      (λ number line unset order there.
      let same : row ≡ order = let both : Some row ≡ Some order = sym order_here ∙ there in cc in
      (λ _. ap (λ (r : Order). r.carrier_id) (sym same), λ _. unset))
      1 rows t.lines undelivered
      (λ q line found order there. h.lines_come_with_orders q line order found (sym (order_elsewhere (order_of_line q) (stood_apart q line found)) ∙ there))
      q line found order there

  -- ---- conditions 10 and 12: what was delivered to a customer

  delivered-same : (customer : CustomerKey) → delivered left customer ≡ delivered t customer
  delivered-same customer =
      let weight : Database → OrderLineKey → OrderLine → ℤ = λ s k line. cond (is_some line.delivery_d && has_ordered s customer (order_of_line k)) (pos line.amount) (pos 0) in
      sum_rows-with_lines key (λ (r : OrderLine). r.delivery_d ≡ None) (weight left)
      (λ number line unset. ap (λ (o : Option ℕ). cond (is_some o && has_ordered left customer key) (pos line.amount) (pos 0)) unset)
      1 rows t.lines undelivered none
      ∙ same_weights (is_of_order key) (weight left) (weight t)
      (λ k line fails. ap (λ b. cond (is_some line.delivery_d && b) (pos line.amount) (pos 0)) (has_ordered-same left t customer (order_of_line k) (order_elsewhere (order_of_line k) (line_apart k fails))))
      (entries t.lines) no_lines

  balances_are_owed : BalancesAreOwed left
  balances_are_owed customer r found = h.balances_are_owed customer r found ∙ ap (λ z. z -ℤ paid t customer) (sym (delivered-same customer))

  balances_are_paid : BalancesArePaid left
  balances_are_paid customer r found = h.balances_are_paid customer r found ∙ sym (delivered-same customer)

  -- condition 8 speaks of warehouses and payments alone, which are as before
  pub placed_consistent : Consistent left
  placed_consistent = record {
    warehouses_sum_districts = warehouses_sum_districts;
    next_orders_follow = next_orders_follow;
    new_orders_have_no_gap = new_orders_have_no_gap;
    districts_count_lines = districts_count_lines;
    new_orders_have_no_carrier = new_orders_have_no_carrier;
    orders_count_lines = orders_count_lines;
    lines_come_with_orders = lines_come_with_orders;
    warehouses_sum_payments = h.warehouses_sum_payments;
    districts_sum_payments = districts_sum_payments;
    balances_are_owed = balances_are_owed;
    balances_are_paid = balances_are_paid;
  }
