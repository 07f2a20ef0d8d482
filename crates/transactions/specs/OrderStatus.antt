-- An Order-Status (clause 2.6.2.2): what its actions find, stated of their claims alone, that is of the content that they record;
-- and its phases.
use Rattle.std.specs.Prelude.{◌≡◌, ℕ, List, [], ◌∷◌, Option, Some, None, IsTrue}
use Rattle.rows.specs.Keys.{district_of_customer}
use Rattle.rows.specs.declared.keys.CustomerKey.{CustomerKey}
use Rattle.rows.specs.declared.records.Customer.{Customer}
use Rattle.partitions.specs.Parts.{SharedTables}
use Rattle.schema.specs.Scale.{has_district}
use Rattle.schema.specs.Database.{Database}
use Rattle.indexes.specs.Namesakes.{Customers, Keyed}
use Rattle.requests.specs.declared.group.Group.TheVariants as g
use Rattle.requests.specs.declared.order_status.OrderStatus.{OrderStatus}
use Rattle.requests.specs.declared.request.Request.{Request}
use Rattle.requests.specs.declared.request.Request.TheVariants as request
use Rattle.requests.specs.declared.order_status.OrderStatusReply.{OrderStatusReply}
use Rattle.requests.specs.declared.order_status.StatusOrder.{StatusOrder}
use Rattle.requests.specs.Check.{IsAccepted}
use Rattle.groups.specs.Content.{content}
use Rattle.groups.specs.Content.Content.{OfCustomers}
use Rattle.groups.specs.declared.group_wants.GroupWant.{GroupWant}
use Rattle.groups.specs.Footprint.{shared as sharing}
use Rattle.tickets.specs.Claims.{ClaimView}
use Rattle.machine.specs.Chosen.{chosen}
use Rattle.machine.specs.OrderStatus.{latest_shown}
use Rattle.transactions.specs.declared.order_status.StatusCustomer.{StatusCustomer}
use Rattle.transactions.specs.declared.order_status.StatusShown.{StatusShown}
use Rattle.transactions.specs.declared.order_status.CustomerShown.{CustomerShown}
use Rattle.transactions.specs.declared.order_status.CustomerShown.TheVariants.{Missing, Shown}
use Rattle.transactions.specs.declared.order_status.Work.{Work}
use Rattle.transactions.specs.declared.order_status.Work.TheVariants.{ShowCustomer, ShowOrder}
use Rattle.transactions.specs.declared.order_status.Found.{Found}
use Rattle.transactions.specs.declared.order_status.Found.TheVariants as found
use Rattle.transactions.specs.declared.order_status.Progress.{Progress}
use Rattle.transactions.specs.declared.order_status.Progress.TheVariants.{ReadCustomer, ReadOrder}
use Rattle.transactions.specs.declared.work.Work.{Work as AnyWork}
use Rattle.transactions.specs.declared.work.Work.TheVariants as any_work
use Rattle.transactions.specs.declared.work.Found.{Found as AnyFound}
use Rattle.transactions.specs.declared.work.Found.TheVariants as any_found
use Rattle.transactions.specs.Granted.{IsAsked, IsSharedOn, group_of_customers}

-- ---- the customer

-- what is shown of a customer's row (clause 2.6.3.4)
abbrev pub status_customer : Customer → StatusCustomer
status_customer row = record { first = row.first; middle = row.middle; last = row.last; balance = row.balance }

-- what is found if this customer was chosen
abbrev pub customer_shown : Option Keyed → CustomerShown
customer_shown (Some c) = Shown c.0 (status_customer c.1)
customer_shown None = Missing

-- what an Order-Status found of its customer, among those of the district
pub record IsCustomerShown (o : OrderStatus) (found : CustomerShown) (customers : ClaimView) : Type 0 where
  pub claim : IsSharedOn (group_of_customers o.home) customers
  pub rows : Customers
  pub recorded : customers.recorded ≡ OfCustomers rows
  pub shown : found ≡ customer_shown (chosen rows o.home o.customer)

-- ---- the customer's last order

-- what it found of the last order, in all tables whose content of the group is the recorded one
pub record IsOrderShown (key : CustomerKey) (order : Option StatusOrder) (orders : ClaimView) : Type 0 where
  pub claim : IsSharedOn (g.Orders key.w_id key.d_id) orders
  pub shown : (t : Database) → content t orders.group ≡ orders.recorded → order ≡ latest_shown t key

-- ---- the actions

-- the warehouse at which the work is done
abbrev pub home_of : Work → ℕ
home_of (ShowCustomer o) = o.home.w_id
home_of (ShowOrder key) = key.w_id

-- the wants of an action's work
abbrev pub group_wants_of : Work → List GroupWant
group_wants_of (ShowCustomer o) = sharing (group_of_customers o.home) ∷ []
group_wants_of (ShowOrder key) = sharing (g.Orders key.w_id key.d_id) ∷ []

-- The work can be done: its Order-Status is one that the check accepts; the customer whose order it shows is of a district of the
-- scale.
abbrev pub CanDo : SharedTables → Work → Type 0
CanDo shared (ShowCustomer o) = IsAccepted shared.scale (request.OrderStatus o)
CanDo shared (ShowOrder key) = IsTrue (has_district shared.scale (district_of_customer key))

-- The work found this, and was done under these claims.
abbrev pub HasDone : SharedTables → Work → Found → List ClaimView → Type 0
HasDone shared (ShowCustomer o) one claims =
    (customer : CustomerShown) × (customers : ClaimView) × (one ≡ found.Customer customer) × (claims ≡ customers ∷ []) × IsCustomerShown o customer customers
HasDone shared (ShowOrder key) one claims =
    (order : Option StatusOrder) × (orders : ClaimView) × (one ≡ found.Order order) × (claims ≡ orders ∷ []) × IsOrderShown key order orders

-- ---- the phases

-- the customer was read under this claim
pub record IsStatusShown (shared : SharedTables) (asked : Request) (given : StatusShown) (held : List (List ClaimView)) : Type 0 where
  pub order_status : OrderStatus
  pub is : asked ≡ request.OrderStatus order_status
  pub accepted : IsAccepted shared.scale asked
  pub customers : ClaimView
  pub claims : held ≡ (customers ∷ []) ∷ []
  pub shown : IsCustomerShown order_status (Shown given.key given.customer) customers

-- the facts of an Order-Status that has come so far, under the claims of each action of its earlier phases
abbrev pub IsReached : SharedTables → Request → Progress → List (List ClaimView) → Type 0
IsReached shared asked (ReadCustomer o) held = IsAsked shared asked (request.OrderStatus o) held
IsReached shared asked (ReadOrder given) held = IsStatusShown shared asked given held

-- the works of the phase's actions: first the customer is read, then the customer's last order
abbrev pub works_of : Progress → List AnyWork
works_of (ReadCustomer o) = any_work.OrderStatus (ShowCustomer o) ∷ []
works_of (ReadOrder given) = any_work.OrderStatus (ShowOrder given.key) ∷ []

-- what the action of the first phase found
abbrev pub IsCustomerFound : List AnyFound → Type 0
IsCustomerFound items = (customer : CustomerShown) × (items ≡ any_found.OrderStatus (found.Customer customer) ∷ [])

-- what the action of the second phase found of the last order
abbrev pub IsOrderFound : List AnyFound → Type 0
IsOrderFound items = (order : Option StatusOrder) × (items ≡ any_found.OrderStatus (found.Order order) ∷ [])

-- the reply for the customer of that key, with the last order (clause 2.6.3.4)
abbrev pub reply_shown : CustomerKey → StatusCustomer → Option StatusOrder → OrderStatusReply
reply_shown key customer order = record {
  c_id = key.c_id;
  first = customer.first;
  middle = customer.middle;
  last = customer.last;
  balance = customer.balance;
  order = order;
}
