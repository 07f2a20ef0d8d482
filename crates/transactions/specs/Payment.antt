-- A payment (clause 2.5.2.2): what its actions find and do, stated of their claims alone, that is of the content that they record
-- and leave; and its phases.
use Rattle.std.specs.Prelude.{◌≡◌, ◌⊎◌, ℕ, pos, List, [], ◌∷◌, ◌++◌, Option, Some, None, unwrap_or, IsTrue}
use Rattle.std.specs.FinMap as map
use Rattle.rows.specs.PaymentNote.{payment_note}
use Rattle.rows.specs.declared.keys.CustomerKey.{CustomerKey}
use Rattle.rows.specs.declared.records.Warehouse.{Warehouse}
use Rattle.rows.specs.declared.records.District.{District}
use Rattle.rows.specs.declared.records.Customer.{Customer}
use Rattle.rows.specs.declared.records.History.{History}
use Rattle.partitions.specs.Parts.{SharedTables}
use Rattle.schema.specs.declared.scale.Scale.{Scale}
use Rattle.schema.specs.Scale.{customer_key, has_customer}
use Rattle.indexes.specs.Namesakes.{Customers}
use Rattle.requests.specs.declared.group.Group.TheVariants as g
use Rattle.requests.specs.declared.payment.Payment.{Payment}
use Rattle.requests.specs.declared.request.Request.{Request}
use Rattle.requests.specs.declared.request.Request.TheVariants as request
use Rattle.requests.specs.declared.reply.Fault.TheVariants.{NoCustomer, Range}
use Rattle.requests.specs.declared.reply.Reply.TheVariants.{RolledBack}
use Rattle.requests.specs.declared.payment.PaymentReply.{PaymentReply}
use Rattle.requests.specs.Check.{IsAccepted}
use Rattle.groups.specs.Content.Content.{OfWarehouse, OfDistrict, OfCustomers, OfHistory}
use Rattle.groups.specs.Groups.{group_of_district, group_of_history}
use Rattle.groups.specs.declared.group_wants.GroupWant.{GroupWant}
use Rattle.groups.specs.Footprint.{exclusively}
use Rattle.tickets.specs.Claims.{ClaimView}
use Rattle.machine.specs.Chosen.{chosen}
use Rattle.machine.specs.Payment.{warehouse_paid, district_paid, customer_paid, payment_reply, history_row}
use Rattle.transactions.specs.declared.payment.HomePaid.{HomePaid}
use Rattle.transactions.specs.declared.payment.HomePaid.TheVariants as h
use Rattle.transactions.specs.declared.payment.CustomerPaid.{CustomerPaid}
use Rattle.transactions.specs.declared.payment.CustomerPaid.TheVariants as c
use Rattle.transactions.specs.declared.payment.Paid.{Paid}
use Rattle.transactions.specs.declared.payment.Work.{Work}
use Rattle.transactions.specs.declared.payment.Work.TheVariants.{PayHome, PayCustomer, AddPayment}
use Rattle.transactions.specs.declared.payment.Found.{Found}
use Rattle.transactions.specs.declared.payment.Found.TheVariants as found
use Rattle.transactions.specs.declared.payment.Progress.{Progress}
use Rattle.transactions.specs.declared.payment.Progress.TheVariants.{PayRows, AddRow}
use Rattle.transactions.specs.declared.work.Work.{Work as AnyWork}
use Rattle.transactions.specs.declared.work.Work.TheVariants as any_work
use Rattle.transactions.specs.declared.work.Found.{Found as AnyFound}
use Rattle.transactions.specs.declared.work.Found.TheVariants as any_found
use Rattle.transactions.specs.declared.progress.Progress.TheVariants as any_progress
use Rattle.transactions.specs.declared.progress.Gathered.{Gathered}
use Rattle.transactions.specs.declared.progress.Gathered.TheVariants.{Next, Finish}
use Rattle.transactions.specs.Granted.{IsAsked, IsExclusiveOn, group_of_customers}

-- ---- the home warehouse and district

-- one of the two rows is missing, and nothing is done
pub record IsHomeMissing (warehouse district : ClaimView) : Type 0 where
  pub none : (warehouse.recorded ≡ OfWarehouse None) ⊎ (district.recorded ≡ OfDistrict None)
  pub warehouse_left : warehouse.left ≡ warehouse.recorded
  pub district_left : district.left ≡ district.recorded

-- both rows are there, a sum would leave its range, and nothing is done
pub record IsHomeOutOfRange (p : Payment) (warehouse district : ClaimView) : Type 0 where
  pub warehouse_row : Warehouse
  pub district_row : District
  pub warehouse_recorded : warehouse.recorded ≡ OfWarehouse (Some warehouse_row)
  pub district_recorded : district.recorded ≡ OfDistrict (Some district_row)
  pub out : (warehouse_paid warehouse_row (pos p.amount) ≡ None) ⊎ (district_paid district_row (pos p.amount) ≡ None)
  pub warehouse_left : warehouse.left ≡ warehouse.recorded
  pub district_left : district.left ≡ district.recorded

-- both rows are there and have these names, and the claims leave both with the amount added
pub record AreHomeRowsPaid (p : Payment) (warehouse_name district_name : List ℕ) (warehouse district : ClaimView) : Type 0 where
  pub warehouse_row : Warehouse
  pub district_row : District
  pub warehouse_recorded : warehouse.recorded ≡ OfWarehouse (Some warehouse_row)
  pub district_recorded : district.recorded ≡ OfDistrict (Some district_row)
  pub warehouse_named : warehouse_name ≡ warehouse_row.name
  pub district_named : district_name ≡ district_row.name
  pub new_warehouse : Warehouse
  pub new_district : District
  pub warehouse_made : warehouse_paid warehouse_row (pos p.amount) ≡ Some new_warehouse
  pub district_made : district_paid district_row (pos p.amount) ≡ Some new_district
  pub warehouse_left : warehouse.left ≡ OfWarehouse (Some new_warehouse)
  pub district_left : district.left ≡ OfDistrict (Some new_district)

-- a row is missing, or a sum would leave its range, or both rows are paid
abbrev pub FindsHome : Payment → HomePaid → ClaimView → ClaimView → Type 0
FindsHome p h.Missing warehouse district = IsHomeMissing warehouse district
FindsHome p h.OutOfRange warehouse district = IsHomeOutOfRange p warehouse district
FindsHome p (h.Paid warehouse_name district_name) warehouse district =
    AreHomeRowsPaid p warehouse_name district_name warehouse district

-- what a payment found of its home warehouse and district, and did there
pub record IsHomePaid (p : Payment) (found : HomePaid) (warehouse district : ClaimView) : Type 0 where
  pub warehouse_claim : IsExclusiveOn (g.Warehouse p.home.w_id) warehouse
  pub district_claim : IsExclusiveOn (group_of_district p.home) district
  pub rows : FindsHome p found warehouse district

-- ---- the customer

-- the customer's row with the amount paid; none if a sum would leave its range
abbrev pub payer_paid : Payment → CustomerKey → Customer → Option Customer
payer_paid p key row = customer_paid row (payment_note key p.home p.amount) (pos p.amount)

-- the district has no such customer, and nothing is done
pub record IsCustomerMissing (p : Payment) (customers : ClaimView) : Type 0 where
  pub rows : Customers
  pub recorded : customers.recorded ≡ OfCustomers rows
  pub missing : chosen rows p.customer_home p.customer ≡ None
  pub left : customers.left ≡ customers.recorded

-- the customer is there, a sum would leave its range, and nothing is done
pub record IsCustomerOutOfRange (p : Payment) (customers : ClaimView) : Type 0 where
  pub rows : Customers
  pub key : CustomerKey
  pub row : Customer
  pub recorded : customers.recorded ≡ OfCustomers rows
  pub there : chosen rows p.customer_home p.customer ≡ Some (key, row)
  pub out : payer_paid p key row ≡ None
  pub left : customers.left ≡ customers.recorded

-- the customer is there, the claim leaves the customer's row with the amount paid, and the reply shows that row
pub record IsCustomerRowPaid (p : Payment) (reply : PaymentReply) (customers : ClaimView) : Type 0 where
  pub rows : Customers
  pub key : CustomerKey
  pub row : Customer
  pub recorded : customers.recorded ≡ OfCustomers rows
  pub there : chosen rows p.customer_home p.customer ≡ Some (key, row)
  pub new_row : Customer
  pub made : payer_paid p key row ≡ Some new_row
  pub left : customers.left ≡ OfCustomers (map.insert rows key new_row)
  pub shown : reply ≡ payment_reply key new_row

-- there is no such customer, or a sum would leave its range, or the customer's row is paid
abbrev pub FindsCustomer : Payment → CustomerPaid → ClaimView → Type 0
FindsCustomer p c.Missing customers = IsCustomerMissing p customers
FindsCustomer p c.OutOfRange customers = IsCustomerOutOfRange p customers
FindsCustomer p (c.Paid reply) customers = IsCustomerRowPaid p reply customers

-- what a payment found of its customer, and did there
pub record IsCustomerPaid (p : Payment) (found : CustomerPaid) (customers : ClaimView) : Type 0 where
  pub claim : IsExclusiveOn (group_of_customers p.customer_home) customers
  pub rows : FindsCustomer p found customers

-- a customer whose row is paid is one of the scale
abbrev pub IsPayerKnown : Scale → Payment → CustomerPaid → Type 0
IsPayerKnown scale p (c.Paid reply) = IsTrue (has_customer scale (customer_key p.customer_home reply.c_id))
IsPayerKnown scale p _ = Unit {0}

-- ---- the list of payments

-- the claim leaves the home district's list with the row at its end
pub record IsPaymentAdded (p : Payment) (row : History) (history : ClaimView) : Type 0 where
  pub claim : IsExclusiveOn (group_of_history p.home) history
  pub rows : Option (List History)
  pub recorded : history.recorded ≡ OfHistory rows
  pub left : history.left ≡ OfHistory (Some (unwrap_or rows [] ++ row ∷ []))

-- ---- the actions

-- the warehouse at which the work is done
abbrev pub home_of : Work → ℕ
home_of (PayHome p) = p.home.w_id
home_of (PayCustomer p) = p.customer_home.w_id
home_of (AddPayment p row) = p.home.w_id

-- the wants of an action's work
abbrev pub group_wants_of : Work → List GroupWant
group_wants_of (PayHome p) = exclusively (g.Warehouse p.home.w_id) ∷ exclusively (group_of_district p.home) ∷ []
group_wants_of (PayCustomer p) = exclusively (group_of_customers p.customer_home) ∷ []
group_wants_of (AddPayment p row) = exclusively (group_of_history p.home) ∷ []

-- The work can be done: its payment is one that the check accepts, and the customer of a row that is added is one of the scale.
abbrev pub CanDo : SharedTables → Work → Type 0
CanDo shared (PayHome p) = IsAccepted shared.scale (request.Payment p)
CanDo shared (PayCustomer p) = IsAccepted shared.scale (request.Payment p)
CanDo shared (AddPayment p row) = IsAccepted shared.scale (request.Payment p) × IsTrue (has_customer shared.scale row.customer)

-- The work found this, and was done under these claims.
abbrev pub HasDone : SharedTables → Work → Found → List ClaimView → Type 0
HasDone shared (PayHome p) one claims =
    (home : HomePaid) × (warehouse : ClaimView) × (district : ClaimView)
    × (one ≡ found.Home home) × (claims ≡ warehouse ∷ district ∷ []) × IsHomePaid p home warehouse district
HasDone shared (PayCustomer p) one claims =
    (customer : CustomerPaid) × (customers : ClaimView)
    × (one ≡ found.Customer customer) × (claims ≡ customers ∷ []) × IsCustomerPaid p customer customers × IsPayerKnown shared.scale p customer
HasDone shared (AddPayment p row) one claims = (history : ClaimView) × (one ≡ found.Added) × (claims ≡ history ∷ []) × IsPaymentAdded p row history

-- ---- the phases

-- a payment that has this reply, at a warehouse and a district of these names: the customer of its row of HISTORY is the one that
-- the reply shows
abbrev pub paid_with : Payment → PaymentReply → List ℕ → List ℕ → Paid
paid_with p reply warehouse district = record {
  payment = p;
  row = history_row p (customer_key p.customer_home reply.c_id) warehouse district;
  reply = reply;
}

-- The step of a payment that found this. A missing row comes before a sum out of its range.
abbrev pub gathered : Payment → HomePaid → CustomerPaid → Gathered
gathered p (h.Paid warehouse district) (c.Paid reply) = Next (any_progress.Payment (AddRow (paid_with p reply warehouse district)))
gathered p h.Missing _ = Finish (RolledBack NoCustomer)
gathered p h.OutOfRange c.Missing = Finish (RolledBack NoCustomer)
gathered p (h.Paid warehouse district) c.Missing = Finish (RolledBack NoCustomer)
gathered p _ _ = Finish (RolledBack Range)

-- under these claims the home rows and the customer's were paid, and the row and the reply follow from that
pub record IsPaid (shared : SharedTables) (asked : Request) (given : Paid) (held : List (List ClaimView)) : Type 0 where
  pub is : asked ≡ request.Payment given.payment
  pub accepted : IsAccepted shared.scale asked
  pub warehouse : ClaimView
  pub district : ClaimView
  pub customers : ClaimView
  pub claims : held ≡ (warehouse ∷ district ∷ []) ∷ (customers ∷ []) ∷ []
  pub home : HomePaid
  pub customer : CustomerPaid
  pub home_paid : IsHomePaid given.payment home warehouse district
  pub customer_paid : IsCustomerPaid given.payment customer customers
  pub payer : IsPayerKnown shared.scale given.payment customer
  pub next : gathered given.payment home customer ≡ Next (any_progress.Payment (AddRow given))

-- the facts of a payment that has come so far, under the claims of each action of its earlier phases
abbrev pub IsReached : SharedTables → Request → Progress → List (List ClaimView) → Type 0
IsReached shared asked (PayRows p) held = IsAsked shared asked (request.Payment p) held
IsReached shared asked (AddRow given) held = IsPaid shared asked given held

-- the works of the phase's actions: place 0 pays the home rows, and place 1 the customer's; then, at place 2, the row is added
abbrev pub works_of : Progress → List AnyWork
works_of (PayRows p) = any_work.Payment (PayHome p) ∷ any_work.Payment (PayCustomer p) ∷ []
works_of (AddRow given) = any_work.Payment (AddPayment given.payment given.row) ∷ []

-- what the actions of the first phase found, in turn
abbrev pub AreRowsFound : List AnyFound → Type 0
AreRowsFound items =
    (home : HomePaid) × (customer : CustomerPaid) × (items ≡ any_found.Payment (found.Home home) ∷ any_found.Payment (found.Customer customer) ∷ [])
