-- What the columns of the rows that a payment puts in are.
use Rattle.std.proofs.Common.{◌≡◌, ℕ, true, false, cond, List, Option, Some, None, sym, ap}
use Rattle.std.specs.Prelude.{ℤ, ◌+◌, ◌+ℤ◌, ◌-ℤ◌}
use Rattle.std.specs.Option.{option_map}
use Rattle.amounts.specs.Money.{money, is_money}
use Rattle.rows.specs.Ranged.{in_range}
use Rattle.rows.specs.declared.records.Warehouse.{Warehouse}
use Rattle.rows.specs.declared.records.District.{District}
use Rattle.rows.specs.declared.records.Customer.{Customer}
use Rattle.machine.specs.Payment.{warehouse_paid, district_paid, customer_paid, with_sums, data_after}

-- money that is in range is itself
money-is : (cents given : ℤ) → money cents ≡ Some given → given ≡ cents
money-is cents given =
    elim (is_money cents) as (λ b. cond b (Some cents) None ≡ Some given → given ≡ cents) [
      | true ↦ λ e. cc
      | false ↦ λ e. absurd cc
    ]

-- a row that is made of money in range
made-of : {X : Type 0} (make : ℤ → X) (cents : ℤ) (row : X) → option_map make (money cents) ≡ Some row → row ≡ make cents
made-of make cents row =
    elim (is_money cents) as (λ b. option_map make (cond b (Some cents) None) ≡ Some row → row ≡ make cents) [
      | true ↦ λ e. cc
      | false ↦ λ e. absurd cc
    ]

-- ---- the new rows

pub warehouse_paid-is : (row new : Warehouse) (amount : ℤ) → warehouse_paid row amount ≡ Some new → new ≡ record row { ytd = row.ytd +ℤ amount }
warehouse_paid-is row new amount = made-of (λ ytd. record row { ytd = ytd }) (row.ytd +ℤ amount) new

pub district_paid-is : (row new : District) (amount : ℤ) → district_paid row amount ≡ Some new → new ≡ record row { ytd = row.ytd +ℤ amount }
district_paid-is row new amount = made-of (λ ytd. record row { ytd = ytd }) (row.ytd +ℤ amount) new

with_sums-are : (row new : Customer) (text : List ℕ) (balance ytd_payment : Option ℤ) (payment_cnt : Option ℕ)
    → with_sums row text balance ytd_payment payment_cnt ≡ Some new → (balance ≡ Some new.balance) × (ytd_payment ≡ Some new.ytd_payment) × (new.last ≡ row.last) × (new.first ≡ row.first)
with_sums-are row new text (Some balance) (Some ytd_payment) (Some payment_cnt) e =
    let same : record row { balance = balance; ytd_payment = ytd_payment; payment_cnt = payment_cnt; «data» = text } ≡ new = cc in
    (ap (λ (c : Customer). Some c.balance) same, ap (λ (c : Customer). Some c.ytd_payment) same, ap (λ (c : Customer). c.last) (sym same), ap (λ (c : Customer). c.first) (sym same))
with_sums-are row new text None ytd_payment payment_cnt e = absurd cc
with_sums-are row new text (Some balance) None payment_cnt e = absurd cc
with_sums-are row new text (Some balance) (Some ytd_payment) None e = absurd cc

-- the customer's sums after the payment, and the names
pub record IsPaidBy (row new : Customer) (amount : ℤ) : Type 0 where
  pub balance : new.balance ≡ row.balance -ℤ amount
  pub ytd_payment : new.ytd_payment ≡ row.ytd_payment +ℤ amount
  pub last : new.last ≡ row.last
  pub first : new.first ≡ row.first

pub customer_paid-is : (row new : Customer) (note : List ℕ) (amount : ℤ) → customer_paid row note amount ≡ Some new → IsPaidBy row new amount
customer_paid-is row new note amount paid =
    let sums = with_sums-are row new (data_after row.credit note row.data) (money (row.balance -ℤ amount)) (money (row.ytd_payment +ℤ amount)) (in_range 0 999999999 (row.payment_cnt + 1)) paid in
    record {
      balance = money-is (row.balance -ℤ amount) new.balance sums.0;
      ytd_payment = money-is (row.ytd_payment +ℤ amount) new.ytd_payment sums.1;
      last = sums.2;
      first = sums.3;
    }
