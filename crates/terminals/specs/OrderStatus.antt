-- The fields of an Order-Status and of its reply.
use Rattle.std.specs.Prelude.{◌≡◌, ℕ, List, [], ◌∷◌, Option, Some, None, codes, flat_map}
use Rattle.std.specs.Fmt.{decimal, signed_decimal}
use Rattle.std.specs.List.{AllZip}
use Rattle.files.specs.MomentText.{IsMomentText}
use Rattle.requests.specs.declared.order_status.OrderStatus.{OrderStatus}
use Rattle.requests.specs.declared.order_status.OrderStatusReply.{OrderStatusReply}
use Rattle.requests.specs.declared.order_status.StatusLine.{StatusLine}
use Rattle.requests.specs.declared.order_status.StatusOrder.{StatusOrder}
use Rattle.terminals.specs.ChoiceText.{choice_text}
use Rattle.terminals.specs.Nullable.{IsNullableMoment, nullable_text}

-- These are the fields of the request.
abbrev pub IsOrderStatus : OrderStatus → List (List ℕ) → Type 0
IsOrderStatus o fields = fields ≡ codes "O" ∷ decimal o.home.w_id ∷ decimal o.home.d_id ∷ choice_text o.customer ∷ []

-- These are the fields of an order's line.
abbrev pub IsStatusLine : StatusLine → List (List ℕ) → Type 0
IsStatusLine line fields =
    (delivery : List ℕ) × IsNullableMoment delivery line.delivery_d
    × (fields ≡ decimal line.i_id ∷ decimal line.supply_w_id ∷ decimal line.quantity ∷ decimal line.amount ∷ delivery ∷ [])

-- These are the fields of the lines, one line after the other.
abbrev pub AreStatusLines : List StatusLine → List (List ℕ) → Type 0
AreStatusLines lines fields =
    (each : List (List (List ℕ))) × AllZip IsStatusLine lines each × (fields ≡ flat_map (λ line. line) each)

-- These are the fields of an order and of its lines. Without an order there are three empty fields.
abbrev pub IsStatusOrder : Option StatusOrder → List (List ℕ) → Type 0
IsStatusOrder None fields = fields ≡ [] ∷ [] ∷ [] ∷ []
IsStatusOrder (Some order) fields =
    (entry : List ℕ) × IsMomentText entry order.entry_d
    × (lines : List (List ℕ)) × AreStatusLines order.lines lines
    × (fields ≡ decimal order.o_id ∷ entry ∷ nullable_text order.carrier_id ∷ lines)

-- The fields are the letter and what is shown of a customer and the customer's order (clause 2.6.3.4).
abbrev pub IsOrderStatusReply : OrderStatusReply → List (List ℕ) → Type 0
IsOrderStatusReply shown fields =
    (order : List (List ℕ)) × IsStatusOrder shown.order order
    × (fields ≡ codes "O" ∷ decimal shown.c_id ∷ shown.first ∷ shown.middle ∷ shown.last ∷ signed_decimal shown.balance ∷ order)
