-- The fields of a request, in schedules and in logs, and of what a terminal asks for, in scripts.
use Rattle.std.specs.Prelude.{◌≡◌, ℕ, List}
use Rattle.requests.specs.declared.request.Request.{Request}
use Rattle.requests.specs.declared.request.Request.TheVariants.{NewOrder, Payment, OrderStatus, Delivery, StockLevel}
use Rattle.requests.specs.declared.terminal_request.TerminalRequest.{TerminalRequest}
use Rattle.requests.specs.declared.terminal_request.TerminalRequest.TheVariants as asked
use Rattle.terminals.specs.NewOrder.{IsNewOrder}
use Rattle.terminals.specs.Payment.{IsPayment}
use Rattle.terminals.specs.OrderStatus.{IsOrderStatus}
use Rattle.terminals.specs.Delivery.{IsDelivery, IsWarehouseDelivery}
use Rattle.terminals.specs.StockLevel.{stock_level_fields}

-- These are the fields of the request.
abbrev pub IsRequest : Request → List (List ℕ) → Type 0
IsRequest (NewOrder n) fields = IsNewOrder n fields
IsRequest (Payment p) fields = IsPayment p fields
IsRequest (OrderStatus o) fields = IsOrderStatus o fields
IsRequest (Delivery d) fields = IsDelivery d fields
IsRequest (StockLevel s) fields = fields ≡ stock_level_fields s

-- These are the fields of what a terminal asks for. A Delivery is of a warehouse.
abbrev pub IsTerminalRequest : TerminalRequest → List (List ℕ) → Type 0
IsTerminalRequest (asked.NewOrder n) fields = IsNewOrder n fields
IsTerminalRequest (asked.Payment p) fields = IsPayment p fields
IsTerminalRequest (asked.OrderStatus o) fields = IsOrderStatus o fields
IsTerminalRequest (asked.Delivery d) fields = IsWarehouseDelivery d fields
IsTerminalRequest (asked.StockLevel s) fields = fields ≡ stock_level_fields s
