-- The reference machine, which carries out requests one at a time.
use Rattle.std.specs.Prelude.{List, [], ◌∷◌}
use Rattle.schema.specs.Database.{Database}
use Rattle.requests.specs.declared.request.Request.{Request}
use Rattle.requests.specs.declared.request.Request.TheVariants.{NewOrder, Payment, OrderStatus, Delivery, StockLevel}
use Rattle.requests.specs.declared.reply.Reply.{Reply}
use Rattle.machine.specs.Outcome.{Outcome}
use Rattle.machine.specs.NewOrder.{new_order}
use Rattle.machine.specs.Payment.{payment}
use Rattle.machine.specs.OrderStatus.{order_status}
use Rattle.machine.specs.Delivery.{delivery}
use Rattle.machine.specs.StockLevel.{stock_level}

-- the outcome of one request
abbrev pub transaction : Database → Request → Outcome
transaction t (NewOrder n) = new_order t n
transaction t (Payment p) = payment t p
transaction t (OrderStatus o) = order_status t o
transaction t (Delivery d) = delivery t d
transaction t (StockLevel s) = stock_level t s

-- the replies to requests, one after another
abbrev pub replies : Database → List Request → List Reply
replies t [] = []
replies t (request ∷ requests) = (transaction t request).reply ∷ replies (transaction t request).tables requests

-- the tables after the requests, one after another
abbrev pub tables_after : Database → List Request → Database
tables_after t [] = t
tables_after t (request ∷ requests) = tables_after (transaction t request).tables requests
