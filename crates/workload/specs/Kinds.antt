-- The kinds of requests.
use Rattle.requests.specs.declared.terminal_request.TerminalRequest.{TerminalRequest}
use Rattle.requests.specs.declared.terminal_request.TerminalRequest.TheVariants.{NewOrder, Payment, OrderStatus, Delivery, StockLevel}
use Rattle.workload.specs.declared.kind.Kind.{Kind}
use Rattle.workload.specs.declared.kind.Kind.TheVariants.{NewOrder as NewOrderKind, Payment as PaymentKind, OrderStatus as OrderStatusKind, Delivery as DeliveryKind, StockLevel as StockLevelKind}

-- the kind of a request
abbrev pub kind_of : TerminalRequest → Kind
kind_of (NewOrder order) = NewOrderKind
kind_of (Payment payment) = PaymentKind
kind_of (OrderStatus asked) = OrderStatusKind
kind_of (Delivery delivery) = DeliveryKind
kind_of (StockLevel asked) = StockLevelKind
