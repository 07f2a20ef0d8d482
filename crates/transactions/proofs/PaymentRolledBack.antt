-- A payment that found a row missing, or a sum out of its range, is rolled back by the machine too.
use Rattle.std.proofs.Common.{◌≡◌, ◌⊎◌, inl, inr, ℕ, [], ◌∷◌, List, Option, Some, None, refl, ap, ◌∙◌}
use Rattle.std.specs.Prelude.{pos}
use Rattle.std.specs.List.{AllByRecursion}
use Rattle.std.proofs.lemmas.List.Elements.{recursion_from_All}
use Rattle.std.specs.FinMap as map
use Rattle.rows.specs.declared.keys.CustomerKey.{CustomerKey}
use Rattle.rows.specs.declared.records.Warehouse.{Warehouse}
use Rattle.rows.specs.declared.records.District.{District}
use Rattle.rows.specs.declared.records.Customer.{Customer}
use Rattle.rows.specs.declared.records.History.{History}
use Rattle.schema.specs.Database.{Database}
use Rattle.indexes.specs.Namesakes.{Customers, Keyed}
use Rattle.requests.specs.declared.group.Group.TheVariants as g
use Rattle.requests.specs.declared.payment.Payment.{Payment}
use Rattle.requests.specs.declared.reply.Fault.{Fault}
use Rattle.requests.specs.declared.reply.Fault.TheVariants.{NoCustomer, Range}
use Rattle.requests.specs.declared.reply.Reply.TheVariants.{RolledBack}
use Rattle.groups.specs.Content.{content}
use Rattle.groups.specs.Content.Content.{OfWarehouse, OfDistrict, OfCustomers}
use Rattle.tickets.specs.Claims.{ClaimView}
use Rattle.tickets.specs.Committed.{RecordsContent}
use Rattle.machine.specs.Chosen.{chosen}
use Rattle.machine.specs.Outcome.{Outcome, rolled_back}
use Rattle.machine.specs.Payment.{payment, paid, posted, posting, payment_row, warehouse_paid, district_paid}
use Rattle.transactions.specs.declared.payment.HomePaid.{HomePaid}
use Rattle.transactions.specs.declared.payment.HomePaid.TheVariants as h
use Rattle.transactions.specs.declared.payment.CustomerPaid.{CustomerPaid}
use Rattle.transactions.specs.declared.payment.CustomerPaid.TheVariants as c
use Rattle.transactions.specs.declared.progress.Gathered.TheVariants.{Finish}
use Rattle.transactions.specs.Granted.{IsExclusiveOn}
use Rattle.transactions.specs.Payment.{FindsHome, IsHomeOutOfRange, AreHomeRowsPaid, FindsCustomer, IsCustomerMissing, IsCustomerOutOfRange, payer_paid, gathered}
use Rattle.transactions.specs.PaymentLaws.{RolledBackPaymentsAreCarriedOut}
use Rattle.transactions.proofs.Recorded as recorded

module _ (t : Database) (p : Payment) where
  -- ---- a row that isn't there

  no_warehouse : (w : Option Warehouse) (d : Option District) (customer : Option Keyed) → w ≡ None → paid t p w d customer ≡ rolled_back t NoCustomer
  no_warehouse w d customer none = ap (λ o. paid t p o d customer) none

  no_district : (w : Option Warehouse) (d : Option District) (customer : Option Keyed) → d ≡ None → paid t p w d customer ≡ rolled_back t NoCustomer
  no_district (Some w) d customer none = ap (λ o. paid t p (Some w) o customer) none
  no_district None d customer none = refl

  no_customer : (w : Option Warehouse) (d : Option District) (customer : Option Keyed) → customer ≡ None → paid t p w d customer ≡ rolled_back t NoCustomer
  no_customer (Some w) (Some d) customer none = ap (λ o. paid t p (Some w) (Some d) o) none
  no_customer (Some w) None customer none = refl
  no_customer None d customer none = refl

  -- ---- a sum that would leave its range

  module _ (key : CustomerKey) (row : History) where
    home_out : (w : Option Warehouse) (d : Option District) (customer : Option Customer) → (w ≡ None) ⊎ (d ≡ None) → posted t (posting p key row) w d customer ≡ rolled_back t Range
    home_out w d customer (inl none) = ap (λ o. posted t (posting p key row) o d customer) none
    home_out (Some w) d customer (inr none) = ap (λ o. posted t (posting p key row) (Some w) o customer) none
    home_out None d customer (inr none) = refl

    customer_out : (w : Option Warehouse) (d : Option District) (customer : Option Customer) → customer ≡ None → posted t (posting p key row) w d customer ≡ rolled_back t Range
    customer_out (Some w) (Some d) customer none = ap (λ o. posted t (posting p key row) (Some w) (Some d) o) none
    customer_out (Some w) None customer none = refl
    customer_out None d customer none = refl

  -- the rows that are there
  all_there : (w : Warehouse) (d : District) (key : CustomerKey) (customer : Customer)
      → map.get t.warehouses p.home.w_id ≡ Some w → map.get t.districts p.home ≡ Some d → chosen t.customers p.customer_home p.customer ≡ Some (key, customer)
      → payment t p ≡ posted t (posting p key (payment_row p key w d)) (warehouse_paid w (pos p.amount)) (district_paid d (pos p.amount)) (payer_paid p key customer)
  all_there w d key customer w_is d_is c_is = λ i. paid t p (w_is i) (d_is i) (c_is i)

  -- ---- by what was found

  module _
      (warehouse district customers : ClaimView)
      (on_warehouse : IsExclusiveOn (g.Warehouse p.home.w_id) warehouse)
      (on_district : IsExclusiveOn (g.District p.home.w_id p.home.d_id) district)
      (on_customers : IsExclusiveOn (g.Customers p.customer_home.w_id p.customer_home.d_id) customers)
      (records : AllByRecursion (RecordsContent (content t)) (warehouse ∷ district ∷ customers ∷ []))
    where
      missing_home : (warehouse.recorded ≡ OfWarehouse None) ⊎ (district.recorded ≡ OfDistrict None) → payment t p ≡ rolled_back t NoCustomer
      missing_home (inl none) = no_warehouse _ _ _ (recorded.warehouse_recorded t p warehouse records.0 None on_warehouse none)
      missing_home (inr none) = no_district _ _ _ (recorded.district_recorded t p district records.1.0 None on_district none)

      missing_customer : IsCustomerMissing p customers → payment t p ≡ rolled_back t NoCustomer
      missing_customer found = no_customer _ _ _ (recorded.customer_recorded t p customers records.1.1.0 on_customers found.rows found.recorded ∙ found.missing)

      home_out_of_range : IsHomeOutOfRange p warehouse district
          → (rows : Customers) (key : CustomerKey) (row : Customer) → customers.recorded ≡ OfCustomers rows → chosen rows p.customer_home p.customer ≡ Some (key, row)
          → payment t p ≡ rolled_back t Range
      home_out_of_range found rows key row rows_recorded there =
          all_there found.warehouse_row found.district_row key row
          (recorded.warehouse_recorded t p warehouse records.0 (Some found.warehouse_row) on_warehouse found.warehouse_recorded)
          (recorded.district_recorded t p district records.1.0 (Some found.district_row) on_district found.district_recorded)
          (recorded.customer_recorded t p customers records.1.1.0 on_customers rows rows_recorded ∙ there)
          ∙ home_out _ _ _ _ _ found.out

      customer_out_of_range : (warehouse_name district_name : List ℕ) → AreHomeRowsPaid p warehouse_name district_name warehouse district → IsCustomerOutOfRange p customers
          → payment t p ≡ rolled_back t Range
      customer_out_of_range warehouse_name district_name home found =
          all_there home.warehouse_row home.district_row found.key found.row
          (recorded.warehouse_recorded t p warehouse records.0 (Some home.warehouse_row) on_warehouse home.warehouse_recorded)
          (recorded.district_recorded t p district records.1.0 (Some home.district_row) on_district home.district_recorded)
          (recorded.customer_recorded t p customers records.1.1.0 on_customers found.rows found.recorded ∙ found.there)
          ∙ customer_out _ _ _ _ _ found.out

      rolled : (home : HomePaid) (customer : CustomerPaid) (fault : Fault) → FindsHome p home warehouse district → FindsCustomer p customer customers
          → gathered p home customer ≡ Finish (RolledBack fault) → payment t p ≡ rolled_back t fault
      rolled h.Missing customer fault found there is = missing_home found.none ∙ ap (rolled_back t) (let same : NoCustomer ≡ fault = cc in same)
      rolled h.OutOfRange c.Missing fault found there is = missing_customer there ∙ ap (rolled_back t) (let same : NoCustomer ≡ fault = cc in same)
      rolled (h.Paid warehouse_name district_name) c.Missing fault found there is = missing_customer there ∙ ap (rolled_back t) (let same : NoCustomer ≡ fault = cc in same)
      rolled h.OutOfRange c.OutOfRange fault found there is =
          home_out_of_range found there.rows there.key there.row there.recorded there.there ∙ ap (rolled_back t) (let same : Range ≡ fault = cc in same)
      rolled h.OutOfRange (c.Paid reply) fault found there is =
          home_out_of_range found there.rows there.key there.row there.recorded there.there ∙ ap (rolled_back t) (let same : Range ≡ fault = cc in same)
      rolled (h.Paid warehouse_name district_name) c.OutOfRange fault found there is =
          customer_out_of_range warehouse_name district_name found there ∙ ap (rolled_back t) (let same : Range ≡ fault = cc in same)
      rolled (h.Paid warehouse_name district_name) (c.Paid reply) fault found there is = absurd cc

pub rolled_back_payments_are_carried_out : RolledBackPaymentsAreCarriedOut
rolled_back_payments_are_carried_out opening p home customer fault warehouse district customers home_is customer_is found t scale items records =
    let same = rolled t p warehouse district customers home_is.warehouse_claim home_is.district_claim customer_is.claim
    (recursion_from_All (RecordsContent (content t)) (warehouse ∷ district ∷ customers ∷ []) records)
    home customer fault home_is.rows customer_is.rows found in
    (ap (λ (o : Outcome). o.reply) same, λ group. ap (λ (o : Outcome). content o.tables group) same)
