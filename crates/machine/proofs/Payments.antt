-- What a payment is, by the rows that were found and those that were made.
use Rattle.std.proofs.Common.{◌≡◌, ℤ, Some, sym, ap, ◌∙◌}
use Rattle.std.specs.Prelude.{pos}
use Rattle.std.specs.FinMap as map
use Rattle.rows.specs.PaymentNote.{payment_note}
use Rattle.schema.specs.Database.{Database}
use Rattle.rows.specs.declared.records.Warehouse.{Warehouse}
use Rattle.rows.specs.declared.records.District.{District}
use Rattle.rows.specs.declared.records.Customer.{Customer}
use Rattle.rows.specs.declared.records.History.{History}
use Rattle.requests.specs.declared.payment.Payment.{Payment}
use Rattle.indexes.specs.Namesakes.{Keyed}
use Rattle.machine.specs.Chosen.{chosen}
use Rattle.machine.specs.Payment.{payment, paid, posted, posting, payment_row, warehouse_paid, district_paid, customer_paid}

module _ (t : Database) (p : Payment) (amount : ℤ) (row : History) (w : Warehouse) (d : District) (c : Keyed) where
  pub payment-posted : (new_w : Warehouse) (new_d : District) (new_c : Customer)
      → amount ≡ pos p.amount
      → map.get t.warehouses p.home.w_id ≡ Some w → map.get t.districts p.home ≡ Some d → chosen t.customers p.customer_home p.customer ≡ Some c
      → row ≡ payment_row p c.0 w d
      → warehouse_paid w amount ≡ Some new_w → district_paid d amount ≡ Some new_d
      → customer_paid c.1 (payment_note c.0 p.home p.amount) (pos p.amount) ≡ Some new_c
      → payment t p ≡ posted t (posting p c.0 row) (Some new_w) (Some new_d) (Some new_c)
  payment-posted new_w new_d new_c amount_is w_is d_is c_is row_is w_paid d_paid c_paid =
      let w_made : warehouse_paid w (pos p.amount) ≡ Some new_w = ap (warehouse_paid w) (sym amount_is) ∙ w_paid in
      let d_made : district_paid d (pos p.amount) ≡ Some new_d = ap (district_paid d) (sym amount_is) ∙ d_paid in
      let note = payment_note c.0 p.home p.amount in
      let who = chosen t.customers p.customer_home p.customer in
      ap (λ o. paid t p o (map.get t.districts p.home) who) w_is
      ∙ ap (λ o. paid t p (Some w) o who) d_is
      ∙ ap (λ o. paid t p (Some w) (Some d) o) c_is
      ∙ ap (λ r. posted t (posting p c.0 r) (warehouse_paid w (pos p.amount)) (district_paid d (pos p.amount)) (customer_paid c.1 note (pos p.amount))) (sym row_is)
      ∙ ap (λ o. posted t (posting p c.0 row) o (district_paid d (pos p.amount)) (customer_paid c.1 note (pos p.amount))) w_made
      ∙ ap (λ o. posted t (posting p c.0 row) (Some new_w) o (customer_paid c.1 note (pos p.amount))) d_made
      ∙ ap (λ o. posted t (posting p c.0 row) (Some new_w) (Some new_d) o) c_paid
