-- The works of the actions of all transactions, and what they want, by kind.
use Rattle.std.specs.Prelude.{◌≡◌, ℕ, List, [], ◌∷◌, ◌++◌, map}
use Rattle.partitions.specs.Parts.{SharedTables}
use Rattle.requests.specs.declared.request.Request.{Request}
use Rattle.requests.specs.declared.request.Request.TheVariants as request
use Rattle.groups.specs.declared.group_wants.GroupWant.{GroupWant}
use Rattle.groups.specs.declared.wants.Extent.TheVariants.{One}
use Rattle.groups.specs.declared.wants.Want.{Want}
use Rattle.groups.specs.Groups.{warehouse_of}
use Rattle.tickets.specs.Claims.{ClaimView}
use Rattle.transactions.specs.declared.new_order.work.Found.{Found as NewOrderFound}
use Rattle.transactions.specs.declared.payment.Found.{Found as PaymentFound}
use Rattle.transactions.specs.declared.order_status.Found.{Found as OrderStatusFound}
use Rattle.transactions.specs.declared.delivery.work.Found.{Found as DeliveryFound}
use Rattle.transactions.specs.declared.stock_level.Found.{Found as StockLevelFound}
use Rattle.transactions.specs.declared.work.Work.{Work}
use Rattle.transactions.specs.declared.work.Work.TheVariants.{NewOrder, Payment, OrderStatus, Delivery, StockLevel}
use Rattle.transactions.specs.declared.work.Found.{Found}
use Rattle.transactions.specs.declared.work.Found.TheVariants as found
use Rattle.transactions.specs.NewOrder as new_order
use Rattle.transactions.specs.Payment as payment
use Rattle.transactions.specs.OrderStatus as order_status
use Rattle.transactions.specs.Delivery as delivery
use Rattle.transactions.specs.StockLevel as stock_level

-- the warehouse at which the work is done
abbrev pub home_of : Work → ℕ
home_of (NewOrder work) = new_order.home_of work
home_of (Payment work) = payment.home_of work
home_of (OrderStatus work) = order_status.home_of work
home_of (Delivery work) = delivery.home_of work
home_of (StockLevel work) = stock_level.home_of work

-- the warehouse whose terminal asks the request
abbrev pub home_of_request : Request → ℕ
home_of_request (request.NewOrder asked) = asked.home.w_id
home_of_request (request.Payment asked) = asked.home.w_id
home_of_request (request.OrderStatus asked) = asked.home.w_id
home_of_request (request.Delivery asked) = asked.home.w_id
home_of_request (request.StockLevel asked) = asked.home.w_id

-- the warehouse of the claims of an action, which are all on groups of one warehouse
abbrev pub home_of_claims : List ClaimView → ℕ
home_of_claims [] = 0
home_of_claims (claim ∷ claims) = warehouse_of claim.group

-- the wants of an action's work
abbrev pub group_wants_of : Work → List GroupWant
group_wants_of (NewOrder work) = new_order.group_wants_of work
group_wants_of (Payment work) = payment.group_wants_of work
group_wants_of (OrderStatus work) = order_status.group_wants_of work
group_wants_of (Delivery work) = delivery.group_wants_of work
group_wants_of (StockLevel work) = stock_level.group_wants_of work

-- a want of one group by itself, as the lock table takes it
abbrev pub want_of : GroupWant → Want
want_of group_want = record { extent = One group_want.group; mode = group_want.mode }

-- what the action asks the lock table of its warehouse for
abbrev pub wants_of : Work → List Want
wants_of work = map want_of (group_wants_of work)

-- the work can be done
abbrev pub CanDo : SharedTables → Work → Type 0
CanDo shared (NewOrder work) = new_order.CanDo shared work
CanDo shared (Payment work) = payment.CanDo shared work
CanDo shared (OrderStatus work) = order_status.CanDo shared work
CanDo shared (Delivery work) = delivery.CanDo shared work
CanDo shared (StockLevel work) = stock_level.CanDo shared work

-- The work found this, and was done under these claims.
abbrev pub HasDone : SharedTables → Work → Found → List ClaimView → Type 0
HasDone shared (NewOrder work) one claims = (own : NewOrderFound) × (one ≡ found.NewOrder own) × new_order.HasDone shared work own claims
HasDone shared (Payment work) one claims = (own : PaymentFound) × (one ≡ found.Payment own) × payment.HasDone shared work own claims
HasDone shared (OrderStatus work) one claims = (own : OrderStatusFound) × (one ≡ found.OrderStatus own) × order_status.HasDone shared work own claims
HasDone shared (Delivery work) one claims = (own : DeliveryFound) × (one ≡ found.Delivery own) × delivery.HasDone shared work own claims
HasDone shared (StockLevel work) one claims = (own : StockLevelFound) × (one ≡ found.StockLevel own) × stock_level.HasDone shared work own claims

-- ---- the actions of a phase

-- Each action found this, and did its work under these claims, by place.
abbrev pub HaveAllDone : SharedTables → List Work → List Found → List (List ClaimView) → Type 0
HaveAllDone shared [] [] [] = Unit {0}
HaveAllDone shared (work ∷ works) (one ∷ found) (held ∷ claims) = HasDone shared work one held × HaveAllDone shared works found claims
HaveAllDone shared works found claims = ⊥

-- the wants of all works, by place
abbrev pub all_group_wants : List Work → List GroupWant
all_group_wants [] = []
all_group_wants (work ∷ works) = group_wants_of work ++ all_group_wants works
