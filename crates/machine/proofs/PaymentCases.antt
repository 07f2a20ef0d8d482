-- The laws of payments, by the two ways that a payment ends: rolled back, or with four rows put in.
use Rattle.std.proofs.Common.{◌≡◌, [], ◌∷◌, ◌++◌, Option, Some, None, IsTrue, is_some, refl, sym, ap, ◌∙◌, arith}
use Rattle.std.specs.Prelude.{pos, ◌+ℤ◌}
use Rattle.std.proofs.lemmas.Int.{ints}
use Rattle.std.specs.Cmp.{nat_cmp_total}
use Rattle.std.specs.FinMap as map
use Rattle.std.specs.FinMap.{nat_cmp-IsAntisymmetric}
use Rattle.rows.specs.PaymentNote.{payment_note}
use Rattle.rows.specs.declared.keys.CustomerKey.{CustomerKey}
use Rattle.rows.specs.declared.records.Warehouse.{Warehouse}
use Rattle.rows.specs.declared.records.District.{District}
use Rattle.rows.specs.declared.records.Customer.{Customer}
use Rattle.rows.specs.declared.records.History.{History}
use Rattle.schema.specs.Sums.{weight_at}
use Rattle.schema.specs.Scale.{customer_key, has_customer}
use Rattle.schema.specs.Database.{Database, IsWithinScale, list_at, with_payment}
use Rattle.schema.specs.Consistency.{amounts_of}
use Rattle.schema.proofs.KeyOrders.{districts_total, districts_exact, customers_total, customers_exact}
use Rattle.schema.proofs.ScaleKept.{scale-warehouse, scale-district, scale-customer, scale-payment}
use Rattle.requests.specs.declared.payment.Payment.{Payment}
use Rattle.requests.specs.declared.reply.Fault.{Fault}
use Rattle.requests.specs.declared.reply.Fault.TheVariants.{NoCustomer, Range}
use Rattle.machine.specs.Outcome.{Outcome, rolled_back}
use Rattle.indexes.specs.Namesakes.{Keyed}
use Rattle.machine.specs.Chosen.{chosen}
use Rattle.machine.specs.Payment.{payment, paid, posted, posting, payment_row, warehouse_paid, district_paid, customer_paid}
use Rattle.machine.proofs.ChosenRows.{chosen_there}
use Rattle.machine.proofs.TableChanges.{get-insert_elsewhere, sum_rows-grow}
use Rattle.machine.proofs.ListedPayments.{amounts_of-append, sum_payments-grow}
use Rattle.machine.proofs.PaidRows.{warehouse_paid-is}
use Rattle.machine.specs.PaymentLaws.{ChangesItsRowsAlone, PaymentIsLocal, PaymentKeepsScale, PaymentKeepsSums, unexplained}

posted-cases : (t : Database) (p : Payment) (key : CustomerKey) (row : History) (ow : Option Warehouse) (od : Option District) (oc : Option Customer) (G : Outcome → Type 0)
    → ((fault : Fault) → G (rolled_back t fault))
    → ((w : Warehouse) (d : District) (c : Customer) → ow ≡ Some w → od ≡ Some d → oc ≡ Some c → G (posted t (posting p key row) (Some w) (Some d) (Some c)))
    → G (posted t (posting p key row) ow od oc)
posted-cases t p key row (Some w) (Some d) (Some c) G back put = put w d c refl refl refl
posted-cases t p key row None od oc G back put = back Range
posted-cases t p key row (Some w) None oc G back put = back Range
posted-cases t p key row (Some w) (Some d) None G back put = back Range

paid-cases : (t : Database) (p : Payment) (ow : Option Warehouse) (od : Option District) (oc : Option Keyed) (G : Outcome → Type 0)
    → ((fault : Fault) → G (rolled_back t fault))
    → ((w : Warehouse) (d : District) (c : Keyed) → ow ≡ Some w → od ≡ Some d → oc ≡ Some c
    → G (posted t (posting p c.0 (payment_row p c.0 w d)) (warehouse_paid w (pos p.amount)) (district_paid d (pos p.amount)) (customer_paid c.1 (payment_note c.0 p.home p.amount) (pos p.amount))))
    → G (paid t p ow od oc)
paid-cases t p (Some w) (Some d) (Some c) G back put = put w d c refl refl refl
paid-cases t p None od oc G back put = back NoCustomer
paid-cases t p (Some w) None oc G back put = back NoCustomer
paid-cases t p (Some w) (Some d) None G back put = back NoCustomer

-- the customer who was chosen, whose row is there
pub record IsPayer (t : Database) (p : Payment) (key : CustomerKey) (c : Customer) : Type 0 where
  pub who : chosen t.customers p.customer_home p.customer ≡ Some (key, c)
  pub row : map.get t.customers key ≡ Some c
  pub of_home : key ≡ customer_key p.customer_home key.c_id

-- a payment is rolled back, or puts in four rows in place of those that were there
pub payment-cases : (t : Database) (p : Payment) (G : Outcome → Type 0)
    → ((fault : Fault) → G (rolled_back t fault))
    → ((key : CustomerKey) (w new_w : Warehouse) (d new_d : District) (c new_c : Customer)
    → map.get t.warehouses p.home.w_id ≡ Some w → map.get t.districts p.home ≡ Some d → IsPayer t p key c
    → warehouse_paid w (pos p.amount) ≡ Some new_w → district_paid d (pos p.amount) ≡ Some new_d → customer_paid c (payment_note key p.home p.amount) (pos p.amount) ≡ Some new_c
    → G (posted t (posting p key (payment_row p key w d)) (Some new_w) (Some new_d) (Some new_c)))
    → G (payment t p)
payment-cases t p G back put =
    paid-cases t p (map.get t.warehouses p.home.w_id) (map.get t.districts p.home) (chosen t.customers p.customer_home p.customer) G back (λ w d c w_is d_is c_is.
    let there = chosen_there t.customers p.customer_home p.customer c c_is in
    posted-cases t p c.0 (payment_row p c.0 w d) (warehouse_paid w (pos p.amount)) (district_paid d (pos p.amount)) (customer_paid c.1 (payment_note c.0 p.home p.amount) (pos p.amount)) G back
    (λ new_w new_d new_c w_made d_made c_made.
    put c.0 w new_w d new_d c.1 new_c w_is d_is (record { who = c_is; row = there.0; of_home = there.1 }) w_made d_made c_made))

-- ---- no other row

pub payment_local : PaymentIsLocal
payment_local t p =
    payment-cases t p (λ o. ChangesItsRowsAlone p t o.tables)
    (λ fault. record {
      scale = refl;
      items = refl;
      warehouses = λ key apart. refl;
      districts = λ key apart. refl;
      stocks = refl;
      customers = λ key apart. refl;
      histories = λ key apart. refl;
      orders = refl;
      new_orders = refl;
      lines = refl;
    })
    (λ payer w new_w d new_d c new_c w_is d_is payer_is w_made d_made c_made. record {
      scale = refl;
      items = refl;
      warehouses = λ key apart. get-insert_elsewhere nat_cmp_total nat_cmp-IsAntisymmetric t.warehouses p.home.w_id new_w key apart;
      districts = λ key apart. get-insert_elsewhere districts_total districts_exact t.districts p.home new_d key apart;
      stocks = refl;
      customers = λ key apart. get-insert_elsewhere customers_total customers_exact t.customers payer new_c key (rw payer_is.who at apart);
      histories = λ key apart. get-insert_elsewhere districts_total districts_exact t.histories p.home
          (list_at t.histories p.home ++ payment_row p payer w d ∷ []) key apart;
      orders = refl;
      new_orders = refl;
      lines = refl;
    })

-- ---- within the scale

there : {X : Type 0} (r : Option X) (x : X) → r ≡ Some x → IsTrue (is_some r)
there r x is = ap is_some is

pub payment_keeps_scale : PaymentKeepsScale
payment_keeps_scale t p h =
    payment-cases t p (λ o. IsWithinScale o.tables) (λ fault. h)
    (λ key w new_w d new_d c new_c w_is d_is payer_is w_made d_made c_made.
    let row = payment_row p key w d in
    let district_there : IsTrue (map.contains_key t.districts p.home) = there _ d d_is in
    let customer_there : IsTrue (map.contains_key t.customers key) = there _ c payer_is.row in
    let warehouse_there : IsTrue (map.contains_key t.warehouses p.home.w_id) = there _ w w_is in
    let list_there : IsTrue (map.contains_key t.histories p.home) = h.histories p.home ∙ sym (h.districts p.home) ∙ district_there in
    let known : IsTrue (has_customer t.scale row.customer) = sym (h.customers key) ∙ customer_there in
    let with_row : Database = record t { histories = with_payment t.histories p.home row } in
    let with_customer : Database = record with_row { customers = map.insert with_row.customers key new_c } in
    let with_district : Database = record with_customer { districts = map.insert with_customer.districts p.home new_d } in
    scale-warehouse with_district p.home.w_id new_w
    (scale-district with_customer p.home new_d (scale-customer with_row key new_c (scale-payment t p.home row h list_there known) customer_there) district_there)
    warehouse_there)

-- ---- sums

pub payment_keeps_sums : PaymentKeepsSums
payment_keeps_sums t p =
    payment-cases t p (λ o. unexplained o.tables ≡ unexplained t) (λ fault. refl)
    (λ key w new_w d new_d c new_c w_is d_is payer_is w_made d_made c_made.
    let row = payment_row p key w d in
    let rows = list_at t.histories p.home in
    let ytd = sum_rows-grow nat_cmp_total nat_cmp-IsAntisymmetric (λ _ (r : Warehouse). r.ytd) t.warehouses p.home.w_id new_w (pos p.amount)
    (ap (λ (r : Warehouse). r.ytd) (warehouse_paid-is w new_w (pos p.amount) w_made)
    ∙ ap (λ r. weight_at (λ _ (r : Warehouse). r.ytd) p.home.w_id r +ℤ pos p.amount) (sym w_is)) in
    let listed = sum_payments-grow (λ _ rows. amounts_of rows) t.histories p.home row (pos p.amount) refl (amounts_of-append rows row) in
    omega (arith, ints, ytd, listed))
