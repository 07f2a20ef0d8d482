-- What a customer's payments come to, one payment or one list after another.
use Rattle.std.proofs.Common.{◌≡◌, ℕ, ◌+◌, ◌<◌, ◌≤◌, true, false, cond, List, ◌∷◌, length, get_or, drop, refl, sym, ap, ◌∙◌, arith}
use Rattle.std.proofs.lemmas.Int.{ints}
use Rattle.std.proofs.lemmas.List.{at_drop_more, at_drop_all}
use Rattle.std.specs.Prelude.{ℤ, pos, ◌+ℤ◌, ◌-ℤ◌}
use Rattle.std.specs.List.{filter}
use Rattle.rows.specs.declared.keys.CustomerKey.{CustomerKey}
use Rattle.rows.specs.declared.records.History.{History}
use Rattle.schema.specs.Consistency.{amounts_of, is_payer}
use Rattle.consistency.specs.Balances.{is_customer}

abbrev pub paid_in : CustomerKey → List History → ℤ
paid_in key payments = amounts_of (filter (is_payer key) payments)

first_payment : (key : CustomerKey) (payment : History) (payments : List History)
    → paid_in key (payment ∷ payments) ≡ cond (is_customer key payment.customer) (payment.amount +ℤ paid_in key payments) (paid_in key payments)
first_payment key payment payments =
    elim (is_customer key payment.customer) as (λ b. amounts_of (cond b (payment ∷ filter (is_payer key) payments) (filter (is_payer key) payments)) ≡ cond b (payment.amount +ℤ paid_in key payments) (paid_in key payments)) [
      | true ↦ refl
      | false ↦ refl
    ]

-- a payment that is credited is no longer left
pub payment_more : (key : CustomerKey) (payments : List History) (n : ℕ) (payment : History) (amount whole : ℤ) → n < length payments → payment ≡ get_or payments n payment → amount ≡ payment.amount
    → cond (is_customer key payment.customer) ((whole -ℤ paid_in key (drop n payments)) +ℤ amount) (whole -ℤ paid_in key (drop n payments)) ≡ (whole -ℤ paid_in key (drop (n + 1) payments))
payment_more key payments n payment amount whole below here is =
    let rest = drop (n + 1) payments in
    let left : paid_in key (drop n payments) ≡ cond (is_customer key payment.customer) (payment.amount +ℤ paid_in key rest) (paid_in key rest) =
    at_drop_more (paid_in key) payments n payment below ∙ ap (λ p. paid_in key (p ∷ rest)) (sym here) ∙ first_payment key payment rest in
    rw left (elim (is_customer key payment.customer) as (λ b. cond b ((whole -ℤ cond b (payment.amount +ℤ paid_in key rest) (paid_in key rest)) +ℤ amount) (whole -ℤ cond b (payment.amount +ℤ paid_in key rest) (paid_in key rest)) ≡ (whole -ℤ paid_in key rest)) [
      | true ↦ omega (arith, ints)
      | false ↦ refl
    ])

pub payment_all : (key : CustomerKey) (payments : List History) (n : ℕ) (whole : ℤ) → length payments ≤ n → (whole -ℤ paid_in key (drop n payments)) ≡ whole
payment_all key payments n whole past =
    let none : paid_in key (drop n payments) ≡ pos 0 = at_drop_all (paid_in key) payments n past in
    omega (arith, ints)
