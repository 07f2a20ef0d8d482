-- How the requests of a script are drawn. Each definition gives the drawn value and, except for `requests_drawn`, the
-- generator after it.
use Rattle.std.specs.Prelude.{ℕ, ◌+◌, min, List, [], ◌∷◌}
use Rattle.rand_pcg.specs.Lcg.{Lcg}
use Rattle.requests.specs.declared.terminal_request.TerminalRequest.{TerminalRequest}
use Rattle.requests.specs.declared.terminal_request.TerminalRequest.TheVariants.{NewOrder, Payment, OrderStatus, Delivery, StockLevel}
use Rattle.requests.specs.declared.order_status.OrderStatus.{OrderStatus as StatusRequest}
use Rattle.number_draws.specs.Words.{beyond}
use Rattle.number_draws.specs.Draws.{random_of}
use Rattle.workload.specs.declared.kind.Kind.{Kind}
use Rattle.workload.specs.declared.kind.Kind.TheVariants.{NewOrder as NewOrderKind, Payment as PaymentKind, OrderStatus as OrderStatusKind, Delivery as DeliveryKind, StockLevel as StockLevelKind}
use Rattle.workload.specs.declared.terminal.Terminal.{Terminal}
use Rattle.workload.specs.Customers.{choice_of}
use Rattle.workload.specs.NewOrders.{new_order_drawn}
use Rattle.workload.specs.Payments.{payment_drawn}

-- the moment that many seconds later, at most the last second of the year 9999
abbrev pub moment_at : ℕ → ℕ → ℕ
moment_at now seconds = min (now + seconds) 253402300799

-- an Order-Status (clause 2.6.1): the district, and the customer
unfoldable pub order_status_drawn : Terminal → Lcg → StatusRequest × Lcg
order_status_drawn terminal generator = (
  record {
    home = record { w_id = terminal.home.w_id; d_id = random_of 1 10 generator };
    customer = choice_of terminal.scale (beyond 1 generator);
  },
  beyond 4 generator,
)

-- A request of that kind. A Delivery is of the terminal's warehouse and draws the carrier, 1 to 10 (clause 2.7.1). A Stock-Level is for the terminal's own
-- district and draws the threshold, 10 to 20 (clause 2.8.1).
unfoldable pub request_drawn : Terminal → ℕ → Kind → Lcg → TerminalRequest × Lcg
request_drawn terminal moment NewOrderKind generator =
    let order = new_order_drawn terminal moment generator in (NewOrder order.0, order.1)
request_drawn terminal moment PaymentKind generator =
    let payment = payment_drawn terminal moment generator in (Payment payment.0, payment.1)
request_drawn terminal moment OrderStatusKind generator =
    let asked = order_status_drawn terminal generator in (OrderStatus asked.0, asked.1)
request_drawn terminal moment DeliveryKind generator =
    (Delivery (record { w_id = terminal.home.w_id; carrier_id = random_of 1 10 generator; moment = moment }), beyond 1 generator)
request_drawn terminal moment StockLevelKind generator =
    (StockLevel (record { home = terminal.home; threshold = random_of 10 20 generator }), beyond 1 generator)

-- a request of each of these kinds, one after another; the first has this number, and each is as many seconds after
-- `now` as its number
unfoldable pub requests_drawn : Terminal → ℕ → ℕ → List Kind → Lcg → List TerminalRequest
requests_drawn terminal now number [] generator = []
requests_drawn terminal now number (kind ∷ kinds) generator =
    let request = request_drawn terminal (moment_at now number) kind generator in
    request.0 ∷ requests_drawn terminal now (number + 1) kinds request.1
