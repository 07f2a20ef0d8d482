-- The fields of a Delivery, of a district or of a warehouse, and of its reply.
use Rattle.std.specs.Prelude.{◌≡◌, ℕ, List, [], ◌∷◌, codes}
use Rattle.std.specs.Fmt.{decimal}
use Rattle.files.specs.MomentText.{IsMomentText}
use Rattle.requests.specs.declared.delivery.Delivery.{Delivery}
use Rattle.requests.specs.declared.delivery.DeliveryReply.{DeliveryReply}
use Rattle.requests.specs.declared.terminal_request.WarehouseDelivery.{WarehouseDelivery}
use Rattle.terminals.specs.Nullable.{nullable_text}

-- The letter and the values of a request whose moment has this text.
abbrev pub delivery_fields : Delivery → List ℕ → List (List ℕ)
delivery_fields d moment = codes "D" ∷ decimal d.home.w_id ∷ decimal d.home.d_id ∷ decimal d.carrier_id ∷ moment ∷ []

-- These are the fields of the request.
abbrev pub IsDelivery : Delivery → List (List ℕ) → Type 0
IsDelivery d fields = (moment : List ℕ) × IsMomentText moment d.moment × (fields ≡ delivery_fields d moment)

-- The same of a Delivery of a warehouse.
abbrev pub warehouse_delivery_fields : WarehouseDelivery → List ℕ → List (List ℕ)
warehouse_delivery_fields d moment = codes "D" ∷ decimal d.w_id ∷ decimal d.carrier_id ∷ moment ∷ []

abbrev pub IsWarehouseDelivery : WarehouseDelivery → List (List ℕ) → Type 0
IsWarehouseDelivery d fields = (moment : List ℕ) × IsMomentText moment d.moment × (fields ≡ warehouse_delivery_fields d moment)

-- The letter and what is shown (clause 2.7.3.2): the district, the carrier, and the order or the empty field.
abbrev pub delivery_reply_fields : DeliveryReply → List (List ℕ)
delivery_reply_fields shown = codes "D" ∷ decimal shown.d_id ∷ decimal shown.carrier_id ∷ nullable_text shown.order ∷ []
