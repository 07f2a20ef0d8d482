-- The fields of a payment and of its reply.
use Rattle.std.specs.Prelude.{◌≡◌, ℕ, List, [], ◌∷◌, codes}
use Rattle.std.specs.Fmt.{decimal, signed_decimal}
use Rattle.files.specs.MomentText.{IsMomentText}
use Rattle.files.specs.Word.{credit_text}
use Rattle.requests.specs.declared.payment.Payment.{Payment}
use Rattle.requests.specs.declared.payment.PaymentReply.{PaymentReply}
use Rattle.terminals.specs.ChoiceText.{choice_text}

-- The letter and the values of a payment whose moment has this text.
abbrev pub payment_fields : Payment → List ℕ → List (List ℕ)
payment_fields p moment =
    codes "P" ∷ decimal p.home.w_id ∷ decimal p.home.d_id ∷ decimal p.customer_home.w_id ∷ decimal p.customer_home.d_id
    ∷ choice_text p.customer ∷ decimal p.amount ∷ moment ∷ []

-- These are the fields of the payment.
abbrev pub IsPayment : Payment → List (List ℕ) → Type 0
IsPayment p fields = (moment : List ℕ) × IsMomentText moment p.moment × (fields ≡ payment_fields p moment)

-- The letter and what a payment shows. Money is in cents, the discount in ten-thousandths (clause 2.5.3).
abbrev pub payment_reply_fields : PaymentReply → List (List ℕ)
payment_reply_fields shown =
    codes "P" ∷ decimal shown.c_id ∷ shown.first ∷ shown.middle ∷ shown.last ∷ credit_text shown.credit
    ∷ decimal shown.discount ∷ signed_decimal shown.balance ∷ shown.data ∷ []
