-- The actions of an Order-Status, together, are the Order-Status.
use Rattle.std.specs.Prelude.{◌≡◌, Option, [], ◌∷◌, IsTrue}
use Rattle.rows.specs.Keys.{district_of_customer}
use Rattle.rows.specs.declared.keys.CustomerKey.{CustomerKey}
use Rattle.schema.specs.declared.scale.Scale.{Scale}
use Rattle.schema.specs.Scale.{has_district}
use Rattle.schema.specs.Database.{Database}
use Rattle.requests.specs.declared.order_status.OrderStatus.{OrderStatus}
use Rattle.requests.specs.declared.request.Request.TheVariants as request
use Rattle.requests.specs.declared.reply.Fault.TheVariants.{NoCustomer}
use Rattle.requests.specs.declared.order_status.StatusOrder.{StatusOrder}
use Rattle.requests.specs.declared.reply.Reply.TheVariants as reply
use Rattle.requests.specs.declared.reply.Shown.TheVariants as kind
use Rattle.requests.specs.Check.{IsAccepted}
use Rattle.tickets.specs.Claims.{ClaimView}
use Rattle.commit_log.specs.Claimed.{IsCarriedOut}
use Rattle.transactions.specs.declared.order_status.StatusCustomer.{StatusCustomer}
use Rattle.transactions.specs.declared.order_status.CustomerShown.TheVariants.{Missing, Shown}
use Rattle.transactions.specs.OrderStatus.{IsCustomerShown, IsOrderShown, reply_shown}

-- If its customer was shown, and the customer's last order, the Order-Status was carried out under these claims with both as its
-- reply.
abbrev pub OrderStatusesAreCarriedOut : Type 0
OrderStatusesAreCarriedOut =
    (opening : Database) (o : OrderStatus) (key : CustomerKey) (customer : StatusCustomer) (order : Option StatusOrder)
    (customers orders : ClaimView)
    → IsCustomerShown o (Shown key customer) customers → IsOrderShown key order orders
    → IsCarriedOut opening (request.OrderStatus o) (customers ∷ orders ∷ []) (reply.Done (kind.OrderStatus (reply_shown key customer order)))

-- If its customer is missing, it was carried out with that fault as its reply.
abbrev pub RolledBackOrderStatusesAreCarriedOut : Type 0
RolledBackOrderStatusesAreCarriedOut =
    (opening : Database) (o : OrderStatus) (customers : ClaimView)
    → IsCustomerShown o Missing customers
    → IsCarriedOut opening (request.OrderStatus o) (customers ∷ []) (reply.RolledBack NoCustomer)

-- The customer that is shown belongs to the district of the request.
abbrev pub ShownCustomersAreAtHome : Type 0
ShownCustomersAreAtHome =
    (o : OrderStatus) (key : CustomerKey) (customer : StatusCustomer) (customers : ClaimView)
    → IsCustomerShown o (Shown key customer) customers → district_of_customer key ≡ o.home

-- The scale has the home district of an accepted Order-Status.
abbrev pub AcceptedStatusesHaveTheirDistrict : Type 0
AcceptedStatusesHaveTheirDistrict =
    (scale : Scale) (o : OrderStatus) → IsAccepted scale (request.OrderStatus o) → IsTrue (has_district scale o.home)
