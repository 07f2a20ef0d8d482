-- When the check refuses an Order-Status.
use Rattle.std.specs.Prelude.{Bool, false, not}
use Rattle.rows.specs.Ranged.{is_between}
use Rattle.schema.specs.declared.scale.Scale.{Scale}
use Rattle.schema.specs.Scale.{has_warehouse}
use Rattle.requests.specs.declared.order_status.OrderStatus.{OrderStatus}
use Rattle.requests.specs.declared.refusal.Refusal.{Refusal}
use Rattle.requests.specs.declared.refusal.Refusal.TheVariants.{BadWarehouse, BadDistrict}

-- whether a refusal applies to the request
abbrev pub order_status_applies : Scale → OrderStatus → Refusal → Bool
-- the warehouse is not in the scale
order_status_applies scale o BadWarehouse = not (has_warehouse scale o.home.w_id)
-- the district is not from 1 to 10 (clause 2.6.1.2)
order_status_applies scale o BadDistrict = not (is_between 1 10 o.home.d_id)
order_status_applies scale o _ = false
