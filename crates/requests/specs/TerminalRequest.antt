-- The requests that a terminal's request is carried out as.
use Rattle.std.specs.Prelude.{ℕ, List, [], ◌∷◌, map}
use Rattle.std.specs.List.{range_with_len}
use Rattle.requests.specs.declared.delivery.Delivery.{Delivery as ADelivery}
use Rattle.requests.specs.declared.request.Request.{Request}
use Rattle.requests.specs.declared.request.Request.TheVariants.{NewOrder, Payment, OrderStatus, Delivery, StockLevel}
use Rattle.requests.specs.declared.terminal_request.TerminalRequest.{TerminalRequest}
use Rattle.requests.specs.declared.terminal_request.TerminalRequest.TheVariants as asked
use Rattle.requests.specs.declared.terminal_request.WarehouseDelivery.{WarehouseDelivery}

-- the Delivery of this district
abbrev pub delivery_in : WarehouseDelivery → ℕ → ADelivery
delivery_in d d_id = record { home = record { w_id = d.w_id; d_id = d_id }; carrier_id = d.carrier_id; moment = d.moment }

-- the requests that a terminal's request is carried out as: a Delivery of a warehouse is those of its districts 1 to 10, in
-- order, and anything else is one (clauses 2.7.1 and 2.7.4.2)
abbrev pub requests_of : TerminalRequest → List Request
requests_of (asked.NewOrder n) = NewOrder n ∷ []
requests_of (asked.Payment p) = Payment p ∷ []
requests_of (asked.OrderStatus o) = OrderStatus o ∷ []
requests_of (asked.Delivery d) = map (λ d_id. Delivery (delivery_in d d_id)) (range_with_len 1 10)
requests_of (asked.StockLevel s) = StockLevel s ∷ []
