-- Which requests the check refuses, and why.
use Rattle.std.specs.Prelude.{◌≡◌, Bool, List, [], ◌∷◌, Option, Some, None, Result, Ok, Err, find}
use Rattle.schema.specs.declared.scale.Scale.{Scale}
use Rattle.requests.specs.declared.request.Request.{Request}
use Rattle.requests.specs.declared.request.Request.TheVariants.{NewOrder, Payment, OrderStatus, Delivery, StockLevel}
use Rattle.requests.specs.declared.refusal.Refusal.{Refusal}
use Rattle.requests.specs.declared.refusal.Refusal.TheVariants.{BadWarehouse, BadDistrict, BadLines, BadQuantity, BadSupply, BadAmount, BadThreshold, BadCarrier}
use Rattle.requests.specs.NewOrder.{new_order_applies}
use Rattle.requests.specs.Payment.{payment_applies}
use Rattle.requests.specs.OrderStatus.{order_status_applies}
use Rattle.requests.specs.Delivery.{delivery_applies}
use Rattle.requests.specs.StockLevel.{stock_level_applies}

-- the refusals of the check, in the order in which they are tried
abbrev pub refusals : List Refusal
refusals = BadWarehouse ∷ BadDistrict ∷ BadLines ∷ BadQuantity ∷ BadSupply ∷ BadAmount ∷ BadThreshold ∷ BadCarrier ∷ []

-- whether a refusal applies to the request, by its kind
abbrev pub applies : Scale → Request → Refusal → Bool
applies scale (NewOrder n) refusal = new_order_applies scale n refusal
applies scale (Payment p) refusal = payment_applies scale p refusal
applies scale (OrderStatus o) refusal = order_status_applies scale o refusal
applies scale (Delivery d) refusal = delivery_applies scale d refusal
applies scale (StockLevel s) refusal = stock_level_applies scale s refusal

-- `Err` of the refusal, `Ok` if there is none
abbrev pub refused_by : Option Refusal → Result (Unit {0}) Refusal
refused_by None = Ok tt
refused_by (Some refusal) = Err refusal

-- the result of a request's check: the first refusal that applies to it
abbrev pub check_of : Scale → Request → Result (Unit {0}) Refusal
check_of scale request = refused_by (find (applies scale request) refusals)

-- no refusal applies to the request
abbrev pub IsAccepted : Scale → Request → Type 0
IsAccepted scale request = check_of scale request ≡ Ok tt
