-- What the turn of its district keeps, a Delivery keeps.
use Rattle.std.proofs.Common.{◌≡◌, ℕ, ◌+◌, true, false, cond, Option, Some, None, refl, subst}
use Rattle.std.specs.Prelude.{ℤ, pos, ◌+ℤ◌}
use Rattle.std.specs.Option.{option_map, option_and_then}
use Rattle.std.specs.FinMap as table
use Rattle.amounts.specs.Money.{money, is_money}
use Rattle.rows.specs.Ranged.{in_range}
use Rattle.rows.specs.declared.keys.DistrictKey.{DistrictKey}
use Rattle.rows.specs.declared.records.Customer.{Customer}
use Rattle.rows.specs.declared.records.Order.{Order}
use Rattle.schema.specs.Database.{Database, customer_of_order}
use Rattle.schema.specs.OrderRows.{oldest_new_order}
use Rattle.requests.specs.declared.delivery.Delivery.{Delivery}
use Rattle.machine.specs.NewOrder.{order_key}
use Rattle.machine.specs.Delivery.{with_delivered, customer_delivered, amount_of, receiver, handed_over, delivered_order, Turn, turn_of, delivered_oldest, recorded, delivery}

-- a value that is there after a step was there before it
mapped_there : {X Y : Type 0} (f : X → Y) (r : Option X) (y : Y) → option_map f r ≡ Some y → (x : X) × (r ≡ Some x) × (f x ≡ y)
mapped_there f None y e = absurd cc
mapped_there f (Some x) y e = (x, refl, cc)

then_there : {X Y : Type 0} (f : X → Option Y) (r : Option X) (y : Y) → option_and_then f r ≡ Some y → (x : X) × (r ≡ Some x) × (f x ≡ Some y)
then_there f None y e = absurd cc
then_there f (Some x) y e = (x, refl, e)

-- ---- the customer's row

-- what a customer's new row has of the old one, for an order that came to this amount
pub record Receives (row new : Customer) (amount : ℕ) : Type 0 where
  pub balance : new.balance ≡ row.balance +ℤ pos amount
  pub ytd_payment : new.ytd_payment ≡ row.ytd_payment
  pub last : new.last ≡ row.last
  pub first : new.first ≡ row.first

money-is : (cents given : ℤ) → money cents ≡ Some given → given ≡ cents
money-is cents given =
    elim (is_money cents) as (λ b. cond b (Some cents) None ≡ Some given → given ≡ cents) [
      | true ↦ λ e. cc
      | false ↦ λ e. absurd cc
    ]

customer_delivered-is : (row new : Customer) (amount : ℕ) → customer_delivered row amount ≡ Some new → Receives row new amount
customer_delivered-is row new amount made =
    with_sums (money (row.balance +ℤ pos amount)) (in_range 0 999999999 (row.delivery_cnt + 1)) (λ given is. money-is (row.balance +ℤ pos amount) given is) made
  where
    with_sums : (balance : Option ℤ) (delivery_cnt : Option ℕ) → ((given : ℤ) → balance ≡ Some given → given ≡ row.balance +ℤ pos amount)
        → with_delivered row balance delivery_cnt ≡ Some new → Receives row new amount
    with_sums None delivery_cnt sum e = absurd cc
    with_sums (Some balance) None sum e = absurd cc
    with_sums (Some balance) (Some delivery_cnt) sum e =
        let is : record row { balance = balance; delivery_cnt = delivery_cnt } ≡ new = cc in
        subst (λ c. Receives row c amount) is (record { balance = sum balance refl; ytd_payment = refl; last = refl; first = refl })

-- ---- one district

-- the turn of this district keeps it, whichever order is delivered
abbrev pub TurnKeeps : (Database → Type 0) → ℕ → ℕ → DistrictKey → Type 0
TurnKeeps P carrier moment home =
    (t : Database) (o_id : ℕ) (row : Order) (c new : Customer) → oldest_new_order t home ≡ Some o_id → table.get t.orders (order_key home o_id) ≡ Some row
    → table.get t.customers (customer_of_order (order_key home o_id) row) ≡ Some c → Receives c new (amount_of t (order_key home o_id))
    → P t → P (handed_over t (order_key home o_id) row carrier moment new)

module _ (P : Database → Type 0) where
  order-kept : (t left : Database) (home : DistrictKey) (o_id carrier moment : ℕ) → TurnKeeps P carrier moment home → oldest_new_order t home ≡ Some o_id
      → delivered_order t home o_id carrier moment ≡ Some left → P t → P left
  order-kept t left home o_id carrier moment kept oldest made h =
      let key = order_key home o_id in
      let of_order = then_there (λ row. option_map (handed_over t key row carrier moment) (receiver t key row)) (table.get t.orders key) left made in
      let of_row = mapped_there (handed_over t key of_order.0 carrier moment) (receiver t key of_order.0) left of_order.2 in
      let of_customer = then_there (λ c. customer_delivered c (amount_of t key)) (table.get t.customers (customer_of_order key of_order.0)) of_row.0 of_row.1 in
      subst P of_row.2 (kept t o_id of_order.0 of_customer.0 of_row.0 oldest of_order.1 of_customer.1 (customer_delivered-is of_customer.0 of_row.0 (amount_of t key) of_customer.2) h)

  turn-kept : (t : Database) (home : DistrictKey) (carrier moment : ℕ) (turn : Turn) → TurnKeeps P carrier moment home → delivered_oldest t home carrier moment ≡ Some turn → P t → P turn.tables
  turn-kept t home carrier moment turn kept made h =
      elim (oldest_new_order t home) as (λ r. oldest_new_order t home ≡ r → turn_of t home carrier moment r ≡ Some turn → P turn.tables) [
        | None ↦ λ e m. let is : record { tables = t; o_id = None } ≡ turn = cc in subst (λ (x : Turn). P x.tables) is h
        | Some o_id ↦ λ e m.
            let there = mapped_there (λ (left : Database). record { tables = left; o_id = Some o_id }) (delivered_order t home o_id carrier moment) turn m in
            subst (λ (x : Turn). P x.tables) there.2 (order-kept t there.0 home o_id carrier moment kept e there.1 h)
      ] refl made

  -- ---- the Delivery

  recorded-kept : (t : Database) (d : Delivery) (r : Option Turn) → ((turn : Turn) → r ≡ Some turn → P turn.tables) → P t → P (recorded t d r).tables
  recorded-kept t d None kept h = h
  recorded-kept t d (Some turn) kept h = kept turn refl

  pub delivery-kept : (t : Database) (d : Delivery) → TurnKeeps P d.carrier_id d.moment d.home → P t → P (delivery t d).tables
  delivery-kept t d kept h =
      recorded-kept t d (delivered_oldest t d.home d.carrier_id d.moment) (λ turn made. turn-kept t d.home d.carrier_id d.moment turn kept made h) h
