-- The indexes that fit tables fit them after a payment too, and after a New-Order the one by last name.
use Rattle.std.proofs.Common.{◌≡◌, ℕ, List, Result, Ok, Err, OnOk, OnErr, refl, sym, subst}
use Rattle.std.specs.Prelude.{pos}
use Rattle.rows.specs.PaymentNote.{payment_note}
use Rattle.schema.specs.Database.{Database}
use Rattle.requests.specs.declared.payment.Payment.{Payment}
use Rattle.requests.specs.declared.new_order.NewOrder.{NewOrder}
use Rattle.indexes.specs.LatestIndex.{FitsLatest}
use Rattle.indexes.specs.NameLaws.{SameNames}
use Rattle.indexes.specs.NameOrder.{FitsNames}
use Rattle.indexes.proofs.Names.{same_names_fit, put_keeps_names}
use Rattle.machine.specs.Payment.{payment}
use Rattle.machine.proofs.PaidRows.{customer_paid-is}
use Rattle.machine.proofs.PaymentCases.{payment-cases}
use Rattle.machine.specs.NewOrder.{new_order}
use Rattle.machine.proofs.NewOrderCases.{new_order-cases}

payment_keeps_names : (t : Database) (p : Payment) → SameNames t (payment t p).tables
payment_keeps_names t p =
    payment-cases t p (λ o. SameNames t o.tables)
    (λ fault. record { scale = refl; last = λ key. refl; first = λ key. refl })
    (λ key w new_w d new_d c new_c w_is d_is payer_is w_made d_made c_made.
    let paid = customer_paid-is c new_c (payment_note key p.home p.amount) (pos p.amount) c_made in
    let same = put_keeps_names t key c new_c payer_is.row paid.last paid.first in
    record { scale = refl; last = same.last; first = same.first })

pub payment_keeps_indexes : (names : List (List ℕ)) (latest : List ℕ) (t : Database) (p : Payment) → FitsNames names t → FitsLatest latest t
    → FitsNames names (payment t p).tables × FitsLatest latest (payment t p).tables
payment_keeps_indexes names latest t p fits_names fits_latest = (
  same_names_fit names t (payment t p).tables (payment_keeps_names t p) fits_names,
  payment-cases t p (λ o. FitsLatest latest o.tables) (λ fault. fits_latest)
      (λ key w new_w d new_d c new_c w_is d_is payer_is w_made d_made c_made. fits_latest),
)

-- a New-Order changes no customer
pub new_order_keeps_names : (names : List (List ℕ)) (t : Database) (n : NewOrder) → FitsNames names t → FitsNames names (new_order t n).tables
new_order_keeps_names names t n fits =
    same_names_fit names t (new_order t n).tables
    (new_order-cases t n (λ o. SameNames t o.tables)
    (λ fault. record { scale = refl; last = λ key. refl; first = λ key. refl })
    (λ w d new_d c items stocks w_is d_is c_is items_are d_made stocks_are. record { scale = refl; last = λ key. refl; first = λ key. refl }))
    fits

-- what is so before a transaction and after it, whether it was carried out or wanted memory
pub still_so : {A E : Type 0} (P : Database → Type 0) (r : Result A E) (before after new : Database) → OnOk r (new ≡ after) → OnErr r (new ≡ before) → P before → P after → P new
still_so P (Ok a) before after new ok err h then_h = subst P (sym ok) then_h
still_so P (Err e) before after new ok err h then_h = subst P (sym err) h
