-- The actions of a Delivery, together, are the Delivery.
use Rattle.std.specs.Prelude.{[], ◌∷◌, Some, None}
use Rattle.schema.specs.Database.{Database}
use Rattle.requests.specs.declared.delivery.Delivery.{Delivery}
use Rattle.requests.specs.declared.request.Request.TheVariants as request
use Rattle.requests.specs.declared.reply.Fault.TheVariants.{Range}
use Rattle.requests.specs.declared.reply.Reply.TheVariants as reply
use Rattle.requests.specs.declared.reply.Shown.TheVariants as kind
use Rattle.tickets.specs.Claims.{ClaimView}
use Rattle.commit_log.specs.Claimed.{IsCarriedOut}
use Rattle.machine.specs.Delivery.{delivery_reply}
use Rattle.transactions.specs.declared.delivery.OrderDelivered.{OrderDelivered}
use Rattle.transactions.specs.declared.delivery.CustomerCredited.TheVariants.{Credited, OutOfRange}
use Rattle.transactions.specs.Delivery.{IsCreditDone, IsOrderDelivered}

-- If the district's oldest new order was delivered, and its customer was credited with it, the Delivery was carried out under
-- these claims, and its reply shows the number of this order.
abbrev pub DeliveriesAreCarriedOut : Type 0
DeliveriesAreCarriedOut =
    (opening : Database) (d : Delivery) (order : OrderDelivered) (orders customers : ClaimView)
    → IsOrderDelivered d.carrier_id d.moment d.home (Some order) orders → IsCreditDone d.home order Credited customers
    → IsCarriedOut opening (request.Delivery d) (orders ∷ customers ∷ []) (reply.Done (kind.Delivery (delivery_reply d (Some order.o_id))))

-- If the district has no new order, it was carried out without crediting any customer, and its reply shows no order.
abbrev pub SkippedDeliveriesAreCarriedOut : Type 0
SkippedDeliveriesAreCarriedOut =
    (opening : Database) (d : Delivery) (orders : ClaimView)
    → IsOrderDelivered d.carrier_id d.moment d.home None orders
    → IsCarriedOut opening (request.Delivery d) (orders ∷ []) (reply.Done (kind.Delivery (delivery_reply d None)))

-- If the customer has no row or can't be credited, it was rolled back.
abbrev pub RolledBackDeliveriesAreCarriedOut : Type 0
RolledBackDeliveriesAreCarriedOut =
    (opening : Database) (d : Delivery) (order : OrderDelivered) (orders customers : ClaimView)
    → IsOrderDelivered d.carrier_id d.moment d.home (Some order) orders → IsCreditDone d.home order OutOfRange customers
    → IsCarriedOut opening (request.Delivery d) (orders ∷ customers ∷ []) (reply.RolledBack Range)
