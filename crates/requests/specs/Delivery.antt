-- When the check refuses a Delivery.
use Rattle.std.specs.Prelude.{Bool, false, not}
use Rattle.rows.specs.Ranged.{is_between}
use Rattle.schema.specs.declared.scale.Scale.{Scale}
use Rattle.schema.specs.Scale.{has_warehouse}
use Rattle.requests.specs.declared.delivery.Delivery.{Delivery}
use Rattle.requests.specs.declared.refusal.Refusal.{Refusal}
use Rattle.requests.specs.declared.refusal.Refusal.TheVariants.{BadWarehouse, BadDistrict, BadCarrier}

-- whether a refusal applies to the request
abbrev pub delivery_applies : Scale → Delivery → Refusal → Bool
-- the warehouse is not in the scale
delivery_applies scale d BadWarehouse = not (has_warehouse scale d.home.w_id)
-- the district is not from 1 to 10
delivery_applies scale d BadDistrict = not (is_between 1 10 d.home.d_id)
-- the carrier is not from 1 to 10 (clause 2.7.1.2)
delivery_applies scale d BadCarrier = not (is_between 1 10 d.carrier_id)
delivery_applies scale d _ = false
