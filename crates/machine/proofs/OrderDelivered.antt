-- An order that is delivered keeps the tables consistent, condition by condition.
use Rattle.std.proofs.Common.{◌≡◌, ◌≢◌, ◌↔◌, ℕ, ◌+◌, Bool, true, false, cond, not, ◌&&◌, ◌==◌, List, [], ◌∷◌, map, length, sum, Option, Some, None, IsTrue, is_some, refl, sym, ap, subst, ◌∙◌, arith}
use Rattle.std.specs.Prelude.{ℤ, pos, ◌+ℤ◌, ◌-ℤ◌}
use Rattle.std.specs.List.{list_all}
use Rattle.std.specs.Option.{option_map}
use Rattle.std.proofs.lemmas.Int.{ints}
use Rattle.std.proofs.lemmas.Bool.Decides.{nat_tests}
use Rattle.std.specs.FinMap as table
use Rattle.std.specs.FinMap.{entries, get-remove}
use Rattle.rows.specs.Keys.{order_cmp, order_of_line}
use Rattle.rows.specs.declared.keys.DistrictKey.{DistrictKey}
use Rattle.rows.specs.declared.keys.CustomerKey.{CustomerKey}
use Rattle.rows.specs.declared.keys.OrderKey.{OrderKey}
use Rattle.rows.specs.declared.keys.OrderLineKey.{OrderLineKey}
use Rattle.rows.specs.declared.records.District.{District}
use Rattle.rows.specs.declared.records.Customer.{Customer}
use Rattle.rows.specs.declared.records.Order.{Order}
use Rattle.rows.specs.declared.records.NewOrder.{NewOrder as NewOrderRow}
use Rattle.rows.specs.declared.records.OrderLine.{OrderLine}
use Rattle.schema.specs.Sums.{sum_entries}
use Rattle.schema.specs.Database.{Database, customer_of_order, rows_where, is_of_district, is_of_order}
use Rattle.schema.specs.Consistency.{Consistent, greatest, least, numbers, orders_of, new_orders_of, has_ordered, delivered, paid, HasNoGap, NextOrderFollows, NextOrdersFollow, NewOrdersHaveNoGap, DistrictsCountLines, NewOrdersHaveNoCarrier, OrdersCountLines, LinesComeWithOrders, BalancesAreOwed, BalancesArePaid}
use Rattle.schema.specs.OrderRows.{oldest_new_order, is_order, carried_by, delivered_at, with_carrier, with_moment}
use Rattle.schema.proofs.KeyOrders.{districts_total, districts_exact, customers_total, customers_exact, orders_total, orders_exact, lines_total, lines_exact}
use Rattle.schema.proofs.Deliveries.{order_test}
use Rattle.schema.proofs.EachRows.{EachRow-table}
use Rattle.schema.proofs.TableWrites.{get-map_rows}
use Rattle.machine.specs.NewOrder.{order_key}
use Rattle.machine.specs.Delivery.{amount_of, handed_over}
use Rattle.machine.proofs.DeliveryCases.{Receives}
use Rattle.machine.proofs.TableChanges.{column-insert}
use Rattle.machine.proofs.RowsAdded.{has_no_gap}
use Rattle.machine.proofs.LinesOfOrders.{order_is}
use Rattle.machine.proofs.FreeNumbers.{other_district}
use Rattle.machine.proofs.RowsChanged.{same_or_other, length-mapped, map-mapped, sum_entries-kept, sum_entries-grown, entries-map_rows, rows_where-map_rows, row_before, rows_where-remove_outside}
use Rattle.machine.proofs.OldestOrder.{Rises, greatest-rest, gap-rest, numbers-without_oldest, oldest_is_there, numbers_rise-with_oldest}

no_gap_at : (ns : List ℕ) → ((first : ℕ) (others : List ℕ) → ns ≡ first ∷ others → greatest (first ∷ others) + 1 ≡ least first others + length (first ∷ others)) → has_no_gap ns
no_gap_at [] h = tt
no_gap_at (n ∷ ns) h = h n ns refl

no_gap_from : (ns : List ℕ) → has_no_gap ns → (first : ℕ) (others : List ℕ) → ns ≡ first ∷ others → greatest (first ∷ others) + 1 ≡ least first others + length (first ∷ others)
no_gap_from ns h first others e = subst has_no_gap e h

no_numbers : {X : Type 0} (rows : List (OrderKey × X)) → numbers rows ≡ [] → rows ≡ []
no_numbers [] e = refl
no_numbers (row ∷ rows) e = absurd cc

-- ---- rows of ORDER and ORDER-LINE

same_count : (b : Bool) (carrier : ℕ) (row : Order) → (cond b (carried_by carrier row) row).ol_cnt ≡ row.ol_cnt
same_count true carrier row = refl
same_count false carrier row = refl

pub same_buyer : (b : Bool) (carrier : ℕ) (row : Order) → (cond b (carried_by carrier row) row).c_id ≡ row.c_id
same_buyer true carrier row = refl
same_buyer false carrier row = refl

-- an order has a carrier, and its lines their moment, or both are as they were
lines_come : (b : Bool) (carrier moment : ℕ) (row : Order) (line : OrderLine) → (line.delivery_d ≡ None) ↔ (row.carrier_id ≡ None)
    → ((cond b (delivered_at moment line) line).delivery_d ≡ None) ↔ ((cond b (carried_by carrier row) row).carrier_id ≡ None)
lines_come true carrier moment row line h = (λ unset. absurd cc, λ unset. absurd cc)
lines_come false carrier moment row line h = h

-- ---- who has ordered an order

same_customer : (a b : CustomerKey) → a.w_id ≡ b.w_id → a.d_id ≡ b.d_id → a.c_id ≡ b.c_id → a ≡ b
same_customer a b w d c =
    let all : (a.w_id, (a.d_id, a.c_id)) ≡ (b.w_id, (b.d_id, b.c_id)) = cc in
    ap (λ (p : ℕ × (ℕ × ℕ)). record { w_id = p.0; d_id = p.1.0; c_id = p.1.1 }) all

ordered_by_own : (key : OrderKey) (c_id : ℕ) → ((key.w_id == key.w_id) && ((key.d_id == key.d_id) && (c_id == c_id))) ≡ true
ordered_by_own key c_id = grind (arith, nat_tests)

ordered_by : (t : Database) (key : OrderKey) (row : Order) → table.get t.orders key ≡ Some row → has_ordered t (customer_of_order key row) key ≡ true
ordered_by t key row found = rw found (ordered_by_own key row.c_id)

of_that_customer : (who : CustomerKey) (key : OrderKey) (row : Order) → ((key.w_id == who.w_id) && ((key.d_id == who.d_id) && (row.c_id == who.c_id))) ≡ true → who ≡ customer_of_order key row
of_that_customer who key row h = same_customer who (customer_of_order key row) (grind (arith, nat_tests)) (grind (arith, nat_tests)) (grind (arith, nat_tests))

ordered_by_no_other : (t : Database) (who : CustomerKey) (key : OrderKey) (row : Order) → table.get t.orders key ≡ Some row → who ≢ customer_of_order key row → has_ordered t who key ≡ false
ordered_by_no_other t who key row found apart =
    rw found
    (elim ((key.w_id == who.w_id) && ((key.d_id == who.d_id) && (row.c_id == who.c_id))) as (λ b. ((key.w_id == who.w_id) && ((key.d_id == who.d_id) && (row.c_id == who.c_id))) ≡ b → b ≡ false) [
      | true ↦ λ e. absurd (apart (of_that_customer who key row e))
      | false ↦ λ e. refl
    ] refl)

-- ---- what a line weighs

-- what a line weighs for a customer, by whether it is delivered and the customer's
abbrev share : Bool → Bool → ℕ → ℤ
share came own amount = cond (came && own) (pos amount) (pos 0)

-- the weight of a line that is added is its whole amount
share-comes : (own : Bool) (amount : ℕ) → own ≡ true → share true own amount ≡ share false own amount +ℤ pos amount
share-comes true amount e = omega (arith, ints)
share-comes false amount e = absurd cc

share-stays : (came own : Bool) (amount : ℕ) → share came own amount ≡ share came own amount +ℤ pos 0
share-stays came own amount = omega (arith, ints)

share-other : (came own : Bool) (amount : ℕ) → own ≡ false → share true own amount ≡ share came own amount
share-other true own amount e = refl
share-other false true amount e = absurd cc
share-other false false amount e = refl

undelivered : (delivery_d : Option ℕ) → delivery_d ≡ None → is_some delivery_d ≡ false
undelivered delivery_d e = ap is_some e

-- the district's oldest new order, with the rows that were found and the customer's new row
module _ (t : Database) (home : DistrictKey) (o_id carrier moment : ℕ) (row : Order) (c new_c : Customer)
    (oldest : oldest_new_order t home ≡ Some o_id) (row_is : table.get t.orders (order_key home o_id) ≡ Some row)
    (c_is : table.get t.customers (customer_of_order (order_key home o_id) row) ≡ Some c)
    (receives : Receives c new_c (amount_of t (order_key home o_id))) (h : Consistent t) where
  abbrev key : OrderKey
  key = order_key home o_id

  abbrev who : CustomerKey
  who = customer_of_order key row

  abbrev left : Database
  left = handed_over t key row carrier moment new_c

  -- ---- the keys stay, but for that of the new order

  same_numbers : (q : DistrictKey) → numbers (orders_of left q) ≡ numbers (orders_of t q)
  same_numbers q =
      ap (λ (l : List (OrderKey × Order)). numbers l) (rows_where-map_rows (with_carrier key carrier) (is_of_district q) t.orders)
      ∙ map-mapped (with_carrier key carrier) (λ e. e.0.o_id) (λ e. e.0.o_id) (λ k x. refl) (orders_of t q)

  new_numbers : numbers (new_orders_of t home) ≡ o_id ∷ numbers (new_orders_of left home)
  new_numbers = numbers-without_oldest home o_id t.new_orders oldest

  rising : Rises (o_id ∷ numbers (new_orders_of left home))
  rising = numbers_rise-with_oldest home o_id t.new_orders oldest

  same_new_orders : (q : DistrictKey) → q ≢ home → new_orders_of left q ≡ new_orders_of t q
  same_new_orders q apart = rows_where-remove_outside orders_total orders_exact (is_of_district q) t.new_orders key (other_district q home o_id apart)

  same_length : (test : OrderLineKey → Bool) → length (rows_where test left.lines) ≡ length (rows_where test t.lines)
  same_length test = ap length (rows_where-map_rows (with_moment key moment) test t.lines) ∙ length-mapped (with_moment key moment) (rows_where test t.lines)

  -- ---- conditions 2 and 3: the numbers of orders and new orders

  here_follows : (r : District) → NextOrderFollows t home r → NextOrderFollows left home r
  here_follows r was = (
    was.0 ∙ ap (λ ns. greatest ns + 1) (sym (same_numbers home)),
    λ some.
        was.1 (λ none. let clash : [] ≡ o_id ∷ numbers (new_orders_of left home) = sym (ap (λ (l : List (OrderKey × NewOrderRow)). numbers l) none) ∙ new_numbers in absurd cc)
        ∙ ap (λ ns. greatest ns + 1) new_numbers
        ∙ ap (λ n. n + 1) (sym (greatest-rest o_id (numbers (new_orders_of left home)) rising.0 (λ none. some (no_numbers (new_orders_of left home) none)))),
  )

  next_orders_follow : NextOrdersFollow left
  next_orders_follow q r found =
      let was = h.next_orders_follow q r found in
      same_or_other districts_total districts_exact q home {G = NextOrderFollows left q r}
      (λ same tied. subst (λ k. NextOrderFollows left k r) (sym same) (here_follows r (subst (λ k. NextOrderFollows t k r) same was)))
      (λ apart other.
      let new_orders = same_new_orders q apart in
      (was.0 ∙ ap (λ ns. greatest ns + 1) (sym (same_numbers q)), λ some. was.1 (λ e. some (new_orders ∙ e)) ∙ ap (λ (l : List (OrderKey × NewOrderRow)). greatest (numbers l) + 1) (sym new_orders)))

  here_no_gap : HasNoGap t home → HasNoGap left home
  here_no_gap was =
      no_gap_from (numbers (new_orders_of left home))
      (gap-rest o_id (numbers (new_orders_of left home)) rising.0 rising.1 (subst has_no_gap new_numbers (no_gap_at (numbers (new_orders_of t home)) was)))

  new_orders_have_no_gap : NewOrdersHaveNoGap left
  new_orders_have_no_gap q r found =
      let was : HasNoGap t q = h.new_orders_have_no_gap q r found in
      same_or_other districts_total districts_exact q home {G = HasNoGap left q}
      (λ same tied. subst (λ k. HasNoGap left k) (sym same) (here_no_gap (subst (λ k. HasNoGap t k) same was)))
      (λ apart other first others is. was first others (ap (λ (l : List (OrderKey × NewOrderRow)). numbers l) (sym (same_new_orders q apart)) ∙ is))

  -- ---- conditions 4 and 6: the lines of a district and of an order

  districts_count_lines : DistrictsCountLines left
  districts_count_lines q r found =
      ap (λ (l : List (OrderKey × Order)). sum (map (λ order. order.1.ol_cnt) l)) (rows_where-map_rows (with_carrier key carrier) (is_of_district q) t.orders)
      ∙ ap sum (map-mapped (with_carrier key carrier) (λ e. e.1.ol_cnt) (λ e. e.1.ol_cnt) (λ k x. same_count (is_order key k) carrier x) (orders_of t q))
      ∙ h.districts_count_lines q r found
      ∙ sym (same_length (λ k. is_of_district q (order_of_line k)))

  order_before : (q : OrderKey) (r : Order) → table.get left.orders q ≡ Some r → (old : Order) × (table.get t.orders q ≡ Some old) × (with_carrier key carrier q old ≡ r)
  order_before q r found = row_before (with_carrier key carrier) orders_exact t.orders q r found

  orders_count_lines : OrdersCountLines left
  orders_count_lines q r found =
      let was = order_before q r found in
      ap (λ (x : Order). x.ol_cnt) (sym was.2) ∙ same_count (is_order key q) carrier was.0
      ∙ h.orders_count_lines q was.0 was.1 ∙ sym (same_length (is_of_order q))

  -- ---- conditions 5 and 7: carriers, new orders and dates of delivery

  new_orders_have_no_carrier : NewOrdersHaveNoCarrier left
  new_orders_have_no_carrier q r found =
      let was = order_before q r found in
      let without = get-remove orders_total t.new_orders key q in
      same_or_other orders_total orders_exact q key {G = (r.carrier_id ≡ None) ↔ IsTrue (table.contains_key left.new_orders q)}
      (λ same tied.
      let it : is_order key q ≡ true = sym (order_test key q) ∙ tied in
      let set : Some carrier ≡ r.carrier_id = ap (λ b. (cond b (carried_by carrier was.0) was.0).carrier_id) (sym it) ∙ ap (λ (x : Order). x.carrier_id) was.2 in
      let gone : table.get left.new_orders q ≡ None = without ∙ ap (λ b. cond b None (table.get t.new_orders q)) tied in
      (λ unset. let clash : Some carrier ≡ None = set ∙ unset in absurd cc, λ listed. let clash : false ≡ true = sym (ap is_some gone) ∙ listed in absurd cc))
      (λ apart other.
      let not_it : is_order key q ≡ false = sym (order_test key q) ∙ other in
      let as_before : was.0 ≡ r = ap (λ b. cond b (carried_by carrier was.0) was.0) (sym not_it) ∙ was.2 in
      let stays : table.get left.new_orders q ≡ table.get t.new_orders q = without ∙ ap (λ b. cond b None (table.get t.new_orders q)) other in
      let held = h.new_orders_have_no_carrier q was.0 was.1 in (
        λ unset. ap is_some stays ∙ held.0 (ap (λ (x : Order). x.carrier_id) as_before ∙ unset),
        λ listed. ap (λ (x : Order). x.carrier_id) (sym as_before) ∙ held.1 (sym (ap is_some stays) ∙ listed),
      ))

  lines_come_with_orders : LinesComeWithOrders left
  lines_come_with_orders q line order found there =
      let line_was = row_before (with_moment key moment) lines_exact t.lines q line found in
      let order_was = order_before (order_of_line q) order there in
      let held = lines_come (is_of_order key q) carrier moment order_was.0 line_was.0 (h.lines_come_with_orders q line_was.0 order_was.0 line_was.1 order_was.1) in (
        λ unset. ap (λ (x : Order). x.carrier_id) (sym order_was.2) ∙ held.0 (ap (λ (x : OrderLine). x.delivery_d) line_was.2 ∙ unset),
        λ unset. ap (λ (x : OrderLine). x.delivery_d) (sym line_was.2) ∙ held.1 (ap (λ (x : Order). x.carrier_id) order_was.2 ∙ unset),
      )

  -- ---- conditions 10 and 12: what was delivered to a customer

  has_ordered-same : (customer : CustomerKey) (q : OrderKey) → has_ordered left customer q ≡ has_ordered t customer q
  has_ordered-same customer q =
      elim (table.get t.orders q) as (λ r. table.get t.orders q ≡ r → has_ordered left customer q ≡ has_ordered t customer q) [
        | None ↦ λ e.
            let there : table.get left.orders q ≡ None = get-map_rows order_cmp (with_carrier key carrier) orders_exact t.orders q ∙ ap (option_map (with_carrier key carrier q)) e in
            rw (there, e) refl
        | Some order ↦ λ e.
            let there : table.get left.orders q ≡ Some (with_carrier key carrier q order) = get-map_rows order_cmp (with_carrier key carrier) orders_exact t.orders q ∙ ap (option_map (with_carrier key carrier q)) e in
            rw (there, e) (ap (λ n. (q.w_id == customer.w_id) && ((q.d_id == customer.d_id) && (n == customer.c_id))) (same_buyer (is_order key q) carrier order))
      ] refl

  -- no line of the order had come
  not_carried : row.carrier_id ≡ None
  not_carried = (h.new_orders_have_no_carrier key row row_is).1 (oldest_is_there home o_id t.new_orders oldest)

  has_not_come : (k : OrderLineKey) (line : OrderLine) → table.get t.lines k ≡ Some line → is_of_order key k ≡ true → is_some line.delivery_d ≡ false
  has_not_come k line found of_it =
      let same = order_is key k of_it in
      undelivered line.delivery_d ((h.lines_come_with_orders k line row found (ap (table.get t.orders) (sym same) ∙ row_is)).1 not_carried)

  -- the line is of another order, or has not come
  abbrev is_to_come : OrderLineKey → OrderLine → Bool
  is_to_come k line = not (is_of_order key k && is_some line.delivery_d)

  all_to_come : IsTrue (list_all (λ e. is_to_come e.0 e.1) (entries t.lines))
  all_to_come =
      (EachRow-table lines_total lines_exact is_to_come t.lines).1 (λ k line found.
      elim (is_of_order key k) as (λ b. is_of_order key k ≡ b → not (b && is_some line.delivery_d) ≡ true) [
        | true ↦ λ e. ap not (has_not_come k line found e)
        | false ↦ λ e. refl
      ] refl)

  abbrev weight : Database → CustomerKey → OrderLineKey → OrderLine → ℤ
  weight s customer k line = share (is_some line.delivery_d) (has_ordered s customer (order_of_line k)) line.amount

  to_come_is : (b came : Bool) → IsTrue (not (b && came)) → b ≡ true → came ≡ false
  to_come_is true true h e = absurd cc
  to_come_is true false h e = refl
  to_come_is false came h e = absurd cc

  -- for the order's customer its lines weigh their amounts more
  weight-grows : (k : OrderLineKey) (line : OrderLine) → IsTrue (is_to_come k line)
      → weight left who k (with_moment key moment k line) ≡ weight t who k line +ℤ cond (is_of_order key k) (pos line.amount) (pos 0)
  weight-grows k line known =
      ap (λ b. share (is_some (with_moment key moment k line).delivery_d) b (with_moment key moment k line).amount) (has_ordered-same who (order_of_line k))
      ∙ elim (is_of_order key k) as (λ b. is_of_order key k ≡ b
      → share (is_some (cond b (delivered_at moment line) line).delivery_d) (has_ordered t who (order_of_line k)) (cond b (delivered_at moment line) line).amount
      ≡ share (is_some line.delivery_d) (has_ordered t who (order_of_line k)) line.amount +ℤ cond b (pos line.amount) (pos 0)) [
        | true ↦ λ e.
            let came : is_some line.delivery_d ≡ false = to_come_is (is_of_order key k) (is_some line.delivery_d) known e in
            let own : has_ordered t who (order_of_line k) ≡ true = ap (has_ordered t who) (sym (order_is key k e)) ∙ ordered_by t key row row_is in
            share-comes (has_ordered t who (order_of_line k)) line.amount own
            ∙ ap (λ b. share b (has_ordered t who (order_of_line k)) line.amount +ℤ pos line.amount) (sym came)
        | false ↦ λ e. share-stays (is_some line.delivery_d) (has_ordered t who (order_of_line k)) line.amount
      ] refl

  delivered-grows : delivered left who ≡ delivered t who +ℤ pos (amount_of t key)
  delivered-grows =
      ap (sum_entries (weight left who)) (entries-map_rows (with_moment key moment) t.lines)
      ∙ sum_entries-grown (with_moment key moment) (weight left who) (weight t who) is_to_come (is_of_order key) (λ line. line.amount) weight-grows (entries t.lines) all_to_come

  -- for no other customer
  delivered-stays : (customer : CustomerKey) → customer ≢ who → delivered left customer ≡ delivered t customer
  delivered-stays customer apart =
      ap (sum_entries (weight left customer)) (entries-map_rows (with_moment key moment) t.lines)
      ∙ sum_entries-kept (with_moment key moment) (weight left customer) (weight t customer) (λ k line.
      ap (λ b. share (is_some (with_moment key moment k line).delivery_d) b (with_moment key moment k line).amount) (has_ordered-same customer (order_of_line k))
      ∙ elim (is_of_order key k) as (λ b. is_of_order key k ≡ b
      → share (is_some (cond b (delivered_at moment line) line).delivery_d) (has_ordered t customer (order_of_line k)) (cond b (delivered_at moment line) line).amount
      ≡ share (is_some line.delivery_d) (has_ordered t customer (order_of_line k)) line.amount) [
        | true ↦ λ e.
            let own : has_ordered t customer (order_of_line k) ≡ false = ap (has_ordered t customer) (sym (order_is key k e)) ∙ ordered_by_no_other t customer key row row_is apart in
            share-other (is_some line.delivery_d) (has_ordered t customer (order_of_line k)) line.amount own
        | false ↦ λ e. refl
      ] refl) (entries t.lines)

  balances_are_owed : BalancesAreOwed left
  balances_are_owed =
      let more = delivered-grows in
      column-insert customers_total customers_exact (λ (r : Customer). r.balance)
      (λ q. delivered t q -ℤ paid t q) (λ q. delivered left q -ℤ paid left q) t.customers who new_c c (pos (amount_of t key))
      h.balances_are_owed c_is receives.balance
      (ap (λ z. z -ℤ paid t who) more ∙ moved (delivered t who) (paid t who) (pos (amount_of t key)))
      (λ q apart. ap (λ z. z -ℤ paid t q) (delivered-stays q apart))
    where
      moved : (x y z : ℤ) → (x +ℤ z) -ℤ y ≡ (x -ℤ y) +ℤ z
      moved x y z = omega (arith, ints)

  balances_are_paid : BalancesArePaid left
  balances_are_paid =
      column-insert customers_total customers_exact (λ (r : Customer). r.balance +ℤ r.ytd_payment)
      (delivered t) (delivered left) t.customers who new_c c (pos (amount_of t key))
      h.balances_are_paid c_is (both new_c.balance new_c.ytd_payment c.balance c.ytd_payment (pos (amount_of t key)) receives.balance receives.ytd_payment)
      delivered-grows
      delivered-stays
    where
      both : (x y a b z : ℤ) → x ≡ a +ℤ z → y ≡ b → x +ℤ y ≡ (a +ℤ b) +ℤ z
      both x y a b z e f = omega (arith, ints, e, f)

  -- conditions 1, 8 and 9 speak of warehouses, districts and payments alone, which are as before
  pub handed_over-consistent : Consistent left
  handed_over-consistent = record {
    warehouses_sum_districts = h.warehouses_sum_districts;
    next_orders_follow = next_orders_follow;
    new_orders_have_no_gap = new_orders_have_no_gap;
    districts_count_lines = districts_count_lines;
    new_orders_have_no_carrier = new_orders_have_no_carrier;
    orders_count_lines = orders_count_lines;
    lines_come_with_orders = lines_come_with_orders;
    warehouses_sum_payments = h.warehouses_sum_payments;
    districts_sum_payments = h.districts_sum_payments;
    balances_are_owed = balances_are_owed;
    balances_are_paid = balances_are_paid;
  }
