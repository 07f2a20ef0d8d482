-- When the check refuses a payment.
use Rattle.std.specs.Prelude.{Bool, false, ◌&&◌, not}
use Rattle.rows.specs.Ranged.{is_between}
use Rattle.schema.specs.declared.scale.Scale.{Scale}
use Rattle.schema.specs.Scale.{has_warehouse}
use Rattle.requests.specs.declared.payment.Payment.{Payment}
use Rattle.requests.specs.declared.refusal.Refusal.{Refusal}
use Rattle.requests.specs.declared.refusal.Refusal.TheVariants.{BadWarehouse, BadDistrict, BadAmount}

-- whether a refusal applies to the payment
abbrev pub payment_applies : Scale → Payment → Refusal → Bool
-- the home warehouse or the customer's is not in the scale
payment_applies scale p BadWarehouse = not (has_warehouse scale p.home.w_id && has_warehouse scale p.customer_home.w_id)
-- the home district or the customer's is not from 1 to 10 (clause 2.5.1.2)
payment_applies scale p BadDistrict = not (is_between 1 10 p.home.d_id && is_between 1 10 p.customer_home.d_id)
-- the amount is not from 1 to 5,000 dollars (clause 2.5.1.3)
payment_applies scale p BadAmount = not (is_between 100 500000 p.amount)
payment_applies scale p _ = false
