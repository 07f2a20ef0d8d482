-- A Delivery (clause 2.7.4.2): what its actions find and do, stated of their claims alone, that is of the content that they
-- record and leave; and its phases.
use Rattle.std.specs.Prelude.{◌≡◌, ℕ, List, [], ◌∷◌, Option, Some, None}
use Rattle.std.specs.Option.{option_and_then}
use Rattle.std.specs.FinMap as table
use Rattle.rows.specs.declared.keys.DistrictKey.{DistrictKey}
use Rattle.rows.specs.declared.records.Customer.{Customer}
use Rattle.rows.specs.declared.records.Order.{Order}
use Rattle.partitions.specs.Parts.{SharedTables}
use Rattle.schema.specs.Scale.{customer_key}
use Rattle.schema.specs.Database.{Database}
use Rattle.schema.specs.OrderRows.{oldest_new_order, with_delivery}
use Rattle.indexes.specs.Namesakes.{Customers}
use Rattle.requests.specs.declared.delivery.Delivery.{Delivery}
use Rattle.requests.specs.declared.request.Request.{Request}
use Rattle.requests.specs.declared.request.Request.TheVariants as request
use Rattle.requests.specs.Check.{IsAccepted}
use Rattle.groups.specs.Content.{content}
use Rattle.groups.specs.Content.Content.{OfCustomers}
use Rattle.groups.specs.declared.group_wants.GroupWant.{GroupWant}
use Rattle.groups.specs.Footprint.{exclusively}
use Rattle.tickets.specs.Claims.{ClaimView}
use Rattle.machine.specs.NewOrder.{order_key}
use Rattle.machine.specs.Delivery.{amount_of, customer_delivered}
use Rattle.transactions.specs.declared.delivery.OrderDelivered.{OrderDelivered}
use Rattle.transactions.specs.declared.delivery.CustomerCredited.{CustomerCredited}
use Rattle.transactions.specs.declared.delivery.CustomerCredited.TheVariants.{Credited, OutOfRange}
use Rattle.transactions.specs.declared.delivery.work.Work.{Work}
use Rattle.transactions.specs.declared.delivery.work.Work.TheVariants.{DeliverOrder, CreditCustomer}
use Rattle.transactions.specs.declared.delivery.work.Found.{Found}
use Rattle.transactions.specs.declared.delivery.work.Found.TheVariants as found
use Rattle.transactions.specs.declared.delivery.phases.Progress.{Progress}
use Rattle.transactions.specs.declared.delivery.phases.Progress.TheVariants as at
use Rattle.transactions.specs.declared.work.Work.{Work as AnyWork}
use Rattle.transactions.specs.declared.work.Work.TheVariants as any_work
use Rattle.transactions.specs.declared.work.Found.{Found as AnyFound}
use Rattle.transactions.specs.declared.work.Found.TheVariants as any_found
use Rattle.transactions.specs.Granted.{IsAsked, IsExclusiveOn, group_of_customers, group_of_orders}

-- ---- the order

-- this is the district's oldest new order, with its customer and the sum of its lines' amounts
pub record IsOldestOrder (t : Database) (home : DistrictKey) (order : OrderDelivered) : Type 0 where
  pub oldest : oldest_new_order t home ≡ Some order.o_id
  pub row : Order
  pub there : table.get t.orders (order_key home order.o_id) ≡ Some row
  pub customer : order.c_id ≡ row.c_id
  pub amount : order.amount ≡ amount_of t (order_key home order.o_id)

-- the district has no new order, or this is its oldest
abbrev pub FindsOldest : Database → DistrictKey → Option OrderDelivered → Type 0
FindsOldest t home None = oldest_new_order t home ≡ None
FindsOldest t home (Some order) = IsOldestOrder t home order

-- the tables with the order delivered, if there is one
abbrev pub order_delivered : Database → DistrictKey → ℕ → ℕ → Option OrderDelivered → Database
order_delivered t home carrier moment None = t
order_delivered t home carrier moment (Some order) = with_delivery t (order_key home order.o_id) carrier moment

-- What was found of the district holds in all tables whose content of the group is the recorded one, and the claim leaves what
-- these have there once that order is delivered.
pub record IsOrderDelivered (carrier moment : ℕ) (home : DistrictKey) (one : Option OrderDelivered) (orders : ClaimView) : Type 0 where
  pub claim : IsExclusiveOn (group_of_orders home) orders
  pub shown : (t : Database) → content t orders.group ≡ orders.recorded → FindsOldest t home one
  pub left : (t : Database) → content t orders.group ≡ orders.recorded → orders.left ≡ content (order_delivered t home carrier moment one) orders.group

-- ---- the customer

-- the customer's row once the order was delivered; none if there is no such customer, or if a value would leave its range
abbrev pub row_credited : Customers → DistrictKey → OrderDelivered → Option Customer
row_credited rows home order = option_and_then (λ row. customer_delivered row order.amount) (table.get rows (customer_key home order.c_id))

-- the claim leaves the row of the customer who ordered it, once the order was delivered
pub record IsCustomerCredited (home : DistrictKey) (order : OrderDelivered) (customers : ClaimView) : Type 0 where
  pub rows : Customers
  pub recorded : customers.recorded ≡ OfCustomers rows
  pub new_row : Customer
  pub made : row_credited rows home order ≡ Some new_row
  pub left : customers.left ≡ OfCustomers (table.insert rows (customer_key home order.c_id) new_row)

-- there is no such customer, or a value would leave its range
pub record IsCustomerOutOfRange (home : DistrictKey) (order : OrderDelivered) (customers : ClaimView) : Type 0 where
  pub rows : Customers
  pub recorded : customers.recorded ≡ OfCustomers rows
  pub out : row_credited rows home order ≡ None

-- the customer is credited, or can't be
abbrev pub FindsCustomer : DistrictKey → OrderDelivered → CustomerCredited → ClaimView → Type 0
FindsCustomer home order Credited customers = IsCustomerCredited home order customers
FindsCustomer home order OutOfRange customers = IsCustomerOutOfRange home order customers

-- what was found of the customer who ordered it, and done there
pub record IsCreditDone (home : DistrictKey) (order : OrderDelivered) (credited : CustomerCredited) (customers : ClaimView) : Type 0 where
  pub claim : IsExclusiveOn (group_of_customers home) customers
  pub rows : FindsCustomer home order credited customers

-- ---- the actions

-- the warehouse at which the work is done
abbrev pub home_of : Work → ℕ
home_of (DeliverOrder d) = d.home.w_id
home_of (CreditCustomer d order) = d.home.w_id

-- the wants of an action's work
abbrev pub group_wants_of : Work → List GroupWant
group_wants_of (DeliverOrder d) = exclusively (group_of_orders d.home) ∷ []
group_wants_of (CreditCustomer d order) = exclusively (group_of_customers d.home) ∷ []

-- The work can be done: its Delivery is one that the check accepts.
abbrev pub CanDo : SharedTables → Work → Type 0
CanDo shared (DeliverOrder d) = IsAccepted shared.scale (request.Delivery d)
CanDo shared (CreditCustomer d order) = IsAccepted shared.scale (request.Delivery d)

-- The work found this, and was done under these claims.
abbrev pub HasDone : SharedTables → Work → Found → List ClaimView → Type 0
HasDone shared (DeliverOrder d) one claims =
    (order : Option OrderDelivered) × (orders : ClaimView)
    × (one ≡ found.Order order) × (claims ≡ orders ∷ []) × IsOrderDelivered d.carrier_id d.moment d.home order orders
HasDone shared (CreditCustomer d order) one claims =
    (credited : CustomerCredited) × (customers : ClaimView)
    × (one ≡ found.Customer credited) × (claims ≡ customers ∷ []) × IsCreditDone d.home order credited customers

-- ---- the phases

-- the order was delivered under this claim
pub record HasDelivered (shared : SharedTables) (asked : Request) (d : Delivery) (order : OrderDelivered) (held : List (List ClaimView)) : Type 0 where
  pub is : asked ≡ request.Delivery d
  pub accepted : IsAccepted shared.scale asked
  pub orders : ClaimView
  pub claims : held ≡ (orders ∷ []) ∷ []
  pub done : IsOrderDelivered d.carrier_id d.moment d.home (Some order) orders

-- the facts of a Delivery that has come so far, under the claims of each action of its earlier phases
abbrev pub IsReached : SharedTables → Request → Progress → List (List ClaimView) → Type 0
IsReached shared asked (at.DeliverOrder d) held = IsAsked shared asked (request.Delivery d) held
IsReached shared asked (at.CreditCustomer d order) held = HasDelivered shared asked d order held

-- the work of the phase's action: first the order is delivered, then its customer is credited
abbrev pub work_of : Progress → Work
work_of (at.DeliverOrder d) = DeliverOrder d
work_of (at.CreditCustomer d order) = CreditCustomer d order

-- this is the phase's only action
abbrev pub works_of : Progress → List AnyWork
works_of progress = any_work.Delivery (work_of progress) ∷ []

-- what the action of the first phase found
abbrev pub IsOrderFound : List AnyFound → Type 0
IsOrderFound items = (order : Option OrderDelivered) × (items ≡ any_found.Delivery (found.Order order) ∷ [])

-- what the action of the second phase found
abbrev pub IsCustomerFound : List AnyFound → Type 0
IsCustomerFound items = (credited : CustomerCredited) × (items ≡ any_found.Delivery (found.Customer credited) ∷ [])
