-- A payment keeps the tables consistent, by the conditions that its four rows have a part in.
use Rattle.std.proofs.Common.{◌≡◌, ℕ, Bool, true, false, cond, eqb, List, [], ◌∷◌, ◌++◌, Option, Some, refl, sym, ap, ◌∙◌, arith, unwrap_or}
use Rattle.std.specs.Prelude.{ℤ, pos, ◌+ℤ◌, ◌-ℤ◌, neg_ℤ}
use Rattle.std.specs.List.{filter}
use Rattle.std.proofs.lemmas.Int.{ints}
use Rattle.std.proofs.lemmas.Bool.{eq-eqb, ne_eqb}
use Rattle.std.specs.Cmp.{nat_cmp_total}
use Rattle.std.specs.FinMap as map
use Rattle.std.specs.FinMap.{nat_cmp-IsAntisymmetric}
use Rattle.rows.specs.PaymentNote.{payment_note}
use Rattle.rows.specs.declared.keys.DistrictKey.{DistrictKey}
use Rattle.rows.specs.declared.keys.CustomerKey.{CustomerKey}
use Rattle.rows.specs.declared.records.Warehouse.{Warehouse}
use Rattle.rows.specs.declared.records.District.{District}
use Rattle.rows.specs.declared.records.Customer.{Customer}
use Rattle.rows.specs.declared.records.History.{History}
use Rattle.schema.specs.Sums.{weight_at, sum_rows}
use Rattle.schema.specs.Database.{Database, list_at}
use Rattle.schema.specs.Consistency.{Consistent, amounts_of, is_payer, delivered, paid, WarehousesSumDistricts, NextOrdersFollow, NewOrdersHaveNoGap, DistrictsCountLines, WarehousesSumPayments, DistrictsSumPayments, BalancesAreOwed, BalancesArePaid}
use Rattle.schema.proofs.KeyOrders.{districts_total, districts_exact, customers_total, customers_exact}
use Rattle.requests.specs.declared.payment.Payment.{Payment}
use Rattle.machine.specs.Payment.{posted, posting, payment_row}
use Rattle.machine.specs.PaymentLaws.{PaymentKeepsConsistency}
use Rattle.machine.proofs.PaidRows.{IsPaidBy, warehouse_paid-is, district_paid-is, customer_paid-is}
use Rattle.machine.proofs.TableChanges.{get-insert_here, get-insert_elsewhere, each_row-insert, column-insert, sum_rows-grow}
use Rattle.machine.proofs.ListedPayments.{amounts_of-append, amounts_where-append, sum_payments-grow, is_payer-own, is_payer-other}
use Rattle.machine.proofs.PaymentCases.{payment-cases}

-- the share that a row has in a sum grows as its column does
share-grows : (has_share : Bool) (old new amount : ℤ) → new ≡ old +ℤ amount
    → cond has_share new (pos 0) ≡ cond has_share old (pos 0) +ℤ cond has_share amount (pos 0)
share-grows true old new amount grows = grows
share-grows false old new amount grows = omega (arith, ints)

no_share : (has_share : Bool) → cond has_share (pos 0) (pos 0) ≡ pos 0
no_share true = refl
no_share false = refl

-- a payment that was carried out: the rows that it found, and those that it put in their places
module _ (t : Database) (p : Payment) (payer : CustomerKey) (w new_w : Warehouse) (d new_d : District) (c new_c : Customer)
    (w_is : map.get t.warehouses p.home.w_id ≡ Some w) (d_is : map.get t.districts p.home ≡ Some d)
    (c_is : map.get t.customers payer ≡ Some c)
    (w_paid : new_w ≡ record w { ytd = w.ytd +ℤ pos p.amount }) (d_paid : new_d ≡ record d { ytd = d.ytd +ℤ pos p.amount })
    (c_paid : IsPaidBy c new_c (pos p.amount)) where
  abbrev row : History
  row = payment_row p payer w d

  abbrev rows : List History
  rows = list_at t.histories p.home

  abbrev left : Database
  left = (posted t (posting p payer row) (Some new_w) (Some new_d) (Some new_c)).tables

  -- ---- conditions 1 and 8: totals by warehouse

  -- W_YTD stays a total that grows by the amount at the home warehouse
  totals_by_warehouse : (before after : ℕ → ℤ)
      → ((warehouse : ℕ) → after warehouse ≡ before warehouse +ℤ cond (eqb p.home.w_id warehouse) (pos p.amount) (pos 0))
      → ((warehouse : ℕ) (r : Warehouse) → map.get t.warehouses warehouse ≡ Some r → r.ytd ≡ before warehouse)
      → (warehouse : ℕ) (r : Warehouse) → map.get left.warehouses warehouse ≡ Some r → r.ytd ≡ after warehouse
  totals_by_warehouse before after grows each =
      let home = p.home.w_id in
      column-insert nat_cmp_total nat_cmp-IsAntisymmetric (λ (r : Warehouse). r.ytd) before after t.warehouses home new_w w (pos p.amount)
      each w_is (ap (λ (r : Warehouse). r.ytd) w_paid)
      (rw (eq-eqb home home refl) at (grows home))
      (λ q apart.
      let same = rw (ne_eqb home q (λ e. apart (sym e))) at (grows q) in
      omega (arith, ints, same))

  warehouses_sum_districts : WarehousesSumDistricts t → WarehousesSumDistricts left
  warehouses_sum_districts each =
      let share : ℕ → DistrictKey → District → ℤ = λ warehouse key r. cond (eqb key.w_id warehouse) r.ytd (pos 0) in
      totals_by_warehouse (λ warehouse. sum_rows (share warehouse) t.districts) (λ warehouse. sum_rows (share warehouse) left.districts)
      (λ warehouse.
      let of_home = eqb p.home.w_id warehouse in
      let amount = cond of_home (pos p.amount) (pos 0) in
      sum_rows-grow districts_total districts_exact (share warehouse) t.districts p.home new_d amount
      (share-grows of_home d.ytd new_d.ytd (pos p.amount) (ap (λ (r : District). r.ytd) d_paid)
      ∙ ap (λ r. weight_at (share warehouse) p.home r +ℤ amount) (sym d_is)))
      each

  warehouses_sum_payments : WarehousesSumPayments t → WarehousesSumPayments left
  warehouses_sum_payments each =
      let share : ℕ → DistrictKey → List History → ℤ = λ warehouse key list. cond (eqb key.w_id warehouse) (amounts_of list) (pos 0) in
      totals_by_warehouse (λ warehouse. sum_rows (share warehouse) t.histories) (λ warehouse. sum_rows (share warehouse) left.histories)
      (λ warehouse.
      let of_home = eqb p.home.w_id warehouse in
      sum_payments-grow (share warehouse) t.histories p.home row (cond of_home (pos p.amount) (pos 0)) (no_share of_home)
      (share-grows of_home (amounts_of rows) (amounts_of (rows ++ row ∷ [])) (pos p.amount) (amounts_of-append rows row)))
      each

  -- ---- conditions 2, 3 and 4: the orders of a district, and D_NEXT_O_ID

  -- each district was there before, with the same D_NEXT_O_ID
  district_before : (home : DistrictKey) (r : District) → map.get left.districts home ≡ Some r
      → (old : District) × (map.get t.districts home ≡ Some old) × (r.next_o_id ≡ old.next_o_id)
  district_before =
      each_row-insert districts_total districts_exact (λ home r. map.get t.districts home ≡ Some r)
      (λ home r. (old : District) × (map.get t.districts home ≡ Some old) × (r.next_o_id ≡ old.next_o_id)) t.districts p.home new_d
      (λ home r found. found) (d, d_is, ap (λ (r : District). r.next_o_id) d_paid) (λ home r apart found. (r, found, refl))

  next_orders_follow : NextOrdersFollow t → NextOrdersFollow left
  next_orders_follow each home r found = let was = district_before home r found in rw was.2 (each home was.0 was.1)

  new_orders_have_no_gap : NewOrdersHaveNoGap t → NewOrdersHaveNoGap left
  new_orders_have_no_gap each home r found = let was = district_before home r found in each home was.0 was.1

  districts_count_lines : DistrictsCountLines t → DistrictsCountLines left
  districts_count_lines each home r found = let was = district_before home r found in each home was.0 was.1

  -- ---- condition 9: what a district was paid

  districts_sum_payments : DistrictsSumPayments t → DistrictsSumPayments left
  districts_sum_payments each =
      let total : Option (List History) → ℤ = λ list. amounts_of (unwrap_or list []) in
      column-insert districts_total districts_exact (λ (r : District). r.ytd)
      (λ home. total (map.get t.histories home)) (λ home. total (map.get left.histories home)) t.districts p.home new_d d (pos p.amount)
      each d_is (ap (λ (r : District). r.ytd) d_paid)
      (ap total (get-insert_here districts_total districts_exact t.histories p.home (rows ++ row ∷ [])) ∙ amounts_of-append rows row)
      (λ q apart. ap total (get-insert_elsewhere districts_total districts_exact t.histories p.home (rows ++ row ∷ []) q apart))

  -- ---- conditions 10 and 12: what a customer has paid

  paid-grows : (customer : CustomerKey) → paid left customer ≡ paid t customer +ℤ cond (is_payer customer row) (pos p.amount) (pos 0)
  paid-grows customer =
      sum_payments-grow (λ _ list. amounts_of (filter (is_payer customer) list)) t.histories p.home row (cond (is_payer customer row) (pos p.amount) (pos 0))
      refl (amounts_where-append (is_payer customer) rows row)

  balances_are_owed : BalancesAreOwed t → BalancesAreOwed left
  balances_are_owed each =
      let more = rw (is_payer-own row) at (paid-grows payer) in
      column-insert customers_total customers_exact (λ (r : Customer). r.balance)
      (λ key. delivered t key -ℤ paid t key) (λ key. delivered left key -ℤ paid left key) t.customers payer new_c c (neg_ℤ (pos p.amount))
      each c_is c_paid.balance
      (omega (arith, ints, more))
      (λ q apart.
      let same = rw (is_payer-other q row apart) at (paid-grows q) in
      omega (arith, ints, same))

  balances_are_paid : BalancesArePaid t → BalancesArePaid left
  balances_are_paid each =
      let falls = c_paid.balance in
      let grows = c_paid.ytd_payment in
      column-insert customers_total customers_exact (λ (r : Customer). r.balance +ℤ r.ytd_payment)
      (delivered t) (delivered left) t.customers payer new_c c (pos 0)
      each c_is (omega (arith, ints, falls, grows)) (omega (arith, ints)) (λ q apart. refl)

  -- conditions 5, 6 and 7 speak of orders and lines alone, which are as before
  left_consistent : Consistent t → Consistent left
  left_consistent h = record {
    warehouses_sum_districts = warehouses_sum_districts h.warehouses_sum_districts;
    next_orders_follow = next_orders_follow h.next_orders_follow;
    new_orders_have_no_gap = new_orders_have_no_gap h.new_orders_have_no_gap;
    districts_count_lines = districts_count_lines h.districts_count_lines;
    new_orders_have_no_carrier = h.new_orders_have_no_carrier;
    orders_count_lines = h.orders_count_lines;
    lines_come_with_orders = h.lines_come_with_orders;
    warehouses_sum_payments = warehouses_sum_payments h.warehouses_sum_payments;
    districts_sum_payments = districts_sum_payments h.districts_sum_payments;
    balances_are_owed = balances_are_owed h.balances_are_owed;
    balances_are_paid = balances_are_paid h.balances_are_paid;
  }

pub payment_keeps_consistency : PaymentKeepsConsistency
payment_keeps_consistency t p h =
    payment-cases t p (λ o. Consistent o.tables) (λ fault. h)
    (λ payer w new_w d new_d c new_c w_is d_is payer_is w_made d_made c_made.
    left_consistent t p payer w new_w d new_d c new_c w_is d_is payer_is.row
    (warehouse_paid-is w new_w (pos p.amount) w_made) (district_paid-is d new_d (pos p.amount) d_made)
    (customer_paid-is c new_c (payment_note payer p.home p.amount) (pos p.amount) c_made) h)
