-- The actions of a New-Order, together, are the New-Order.
use Rattle.std.specs.Prelude.{◌≡◌, ◌⊎◌, List, [], ◌∷◌, ◌++◌, Ok, Err}
use Rattle.partitions.specs.Parts.{SharedTables, shared_of}
use Rattle.schema.specs.Database.{Database}
use Rattle.requests.specs.declared.new_order.NewOrder.{NewOrder}
use Rattle.requests.specs.declared.request.Request.TheVariants as request
use Rattle.requests.specs.declared.reply.Fault.{Fault}
use Rattle.requests.specs.declared.reply.Fault.TheVariants.{NoCustomer}
use Rattle.requests.specs.declared.reply.Reply.TheVariants as reply
use Rattle.requests.specs.declared.reply.Shown.TheVariants as kind
use Rattle.requests.specs.Check.{IsAccepted}
use Rattle.groups.specs.NewOrder.{supplies_of}
use Rattle.tickets.specs.Claims.{ClaimView}
use Rattle.commit_log.specs.Claimed.{IsCarriedOut}
use Rattle.transactions.specs.declared.new_order.HomeFound.{HomeFound}
use Rattle.transactions.specs.declared.new_order.HomeFound.TheVariants as h
use Rattle.transactions.specs.declared.new_order.HomeShown.{HomeShown}
use Rattle.transactions.specs.declared.new_order.Orderer.{Orderer}
use Rattle.transactions.specs.declared.new_order.OrdererFound.{OrdererFound}
use Rattle.transactions.specs.declared.new_order.OrdererFound.TheVariants as c
use Rattle.transactions.specs.declared.new_order.StockTaken.{StockTaken}
use Rattle.transactions.specs.declared.new_order.OrderPlaced.{OrderPlaced}
use Rattle.transactions.specs.NewOrder.{AreStocksTaken, IsHomeOrdered, IsNumberKnown, IsOrderAdded, IsOrderKnown, IsOrdererKnown, IsOrdererShown, decided}

-- If the order got its number, its customer was shown, its lines were sold by each group of stock in turn, and it was added, it
-- was carried out under these claims with this reply.
abbrev pub NewOrdersAreCarriedOut : Type 0
NewOrdersAreCarriedOut =
    (opening : Database) (n : NewOrder) (home : HomeShown) (orderer : Orderer) (found : List StockTaken) (placed : OrderPlaced)
    (warehouse district customers : ClaimView) (stocks : List ClaimView) (orders : ClaimView)
    → IsHomeOrdered n (h.Shown home) warehouse district → IsOrdererShown n (c.Shown orderer) customers
    → AreStocksTaken (shared_of opening) n (supplies_of n.lines) found stocks
    → decided n home orderer found ≡ Ok placed → IsOrderAdded placed.rows orders
    → IsCarriedOut opening (request.NewOrder n) (warehouse ∷ district ∷ customers ∷ (stocks ++ orders ∷ [])) (reply.Done (kind.NewOrder placed.reply))

-- If its home warehouse, its district or its customer has no row, it was carried out with that fault as its reply.
abbrev pub NewOrdersOfNobodyAreCarriedOut : Type 0
NewOrdersOfNobodyAreCarriedOut =
    (opening : Database) (n : NewOrder) (home : HomeFound) (orderer : OrdererFound) (warehouse district customers : ClaimView)
    → IsHomeOrdered n home warehouse district → IsOrdererShown n orderer customers
    → (home ≡ h.Missing) ⊎ (orderer ≡ c.Missing)
    → IsCarriedOut opening (request.NewOrder n) (warehouse ∷ district ∷ customers ∷ []) (reply.RolledBack NoCustomer)

-- If what was found of the stock requires a rollback, it was carried out with that fault as its reply.
abbrev pub RolledBackNewOrdersAreCarriedOut : Type 0
RolledBackNewOrdersAreCarriedOut =
    (opening : Database) (n : NewOrder) (home : HomeShown) (orderer : Orderer) (found : List StockTaken) (fault : Fault)
    (warehouse district customers : ClaimView) (stocks : List ClaimView)
    → IsHomeOrdered n (h.Shown home) warehouse district → IsOrdererShown n (c.Shown orderer) customers
    → AreStocksTaken (shared_of opening) n (supplies_of n.lines) found stocks
    → decided n home orderer found ≡ Err fault
    → IsCarriedOut opening (request.NewOrder n) (warehouse ∷ district ∷ customers ∷ stocks) (reply.RolledBack fault)

-- Tables of the scale can have the order that is added.
abbrev pub PlacedOrdersAreKnown : Type 0
PlacedOrdersAreKnown =
    (shared : SharedTables) (n : NewOrder) (home : HomeShown) (orderer : Orderer) (found : List StockTaken) (placed : OrderPlaced) (stocks : List ClaimView)
    → IsAccepted shared.scale (request.NewOrder n) → IsNumberKnown (h.Shown home) → IsOrdererKnown shared.scale n (c.Shown orderer)
    → AreStocksTaken shared n (supplies_of n.lines) found stocks
    → decided n home orderer found ≡ Ok placed → IsOrderKnown shared.scale placed.rows
