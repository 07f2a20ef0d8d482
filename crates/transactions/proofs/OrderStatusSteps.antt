-- What follows of what the actions of an Order-Status found.
use Rattle.std.proofs.Common.{◌≡◌, ◌∙◌, List, [], ◌∷◌, ◌++◌, Option, ap, sym, subst}
use Rattle.rows.specs.declared.keys.CustomerKey.{CustomerKey}
use Rattle.partitions.specs.Parts.{SharedTables}
use Rattle.requests.specs.declared.request.Request.TheVariants as request
use Rattle.requests.specs.declared.order_status.OrderStatus.{OrderStatus}
use Rattle.requests.specs.declared.reply.Fault.TheVariants.{NoCustomer}
use Rattle.requests.specs.declared.reply.Reply.TheVariants as reply
use Rattle.requests.specs.declared.reply.Shown.TheVariants as kind
use Rattle.requests.specs.declared.order_status.StatusOrder.{StatusOrder}
use Rattle.tickets.specs.Claims.{ClaimView, all_claims}
use Rattle.commit_log.specs.Claimed.{IsCarriedOut}
use Rattle.transactions.specs.declared.order_status.Work.TheVariants.{ShowCustomer, ShowOrder}
use Rattle.transactions.specs.declared.order_status.Found.TheVariants.{Customer, Order}
use Rattle.transactions.specs.declared.order_status.StatusCustomer.{StatusCustomer}
use Rattle.transactions.specs.declared.order_status.StatusShown.{StatusShown}
use Rattle.transactions.specs.declared.order_status.CustomerShown.{CustomerShown}
use Rattle.transactions.specs.declared.order_status.CustomerShown.TheVariants.{Missing, Shown}
use Rattle.transactions.specs.declared.order_status.Progress.TheVariants.{ReadCustomer, ReadOrder}
use Rattle.transactions.specs.declared.work.Work.TheVariants as any_work
use Rattle.transactions.specs.declared.work.Found.{Found}
use Rattle.transactions.specs.declared.work.Found.TheVariants as any_found
use Rattle.transactions.specs.declared.progress.Progress.TheVariants as any_progress
use Rattle.transactions.specs.declared.progress.Gathered.TheVariants.{Next, Finish}
use Rattle.transactions.specs.OrderStatus.{IsCustomerShown, IsOrderShown, reply_shown, works_of}
use Rattle.transactions.specs.Works.{HaveAllDone}
use Rattle.transactions.specs.Progresses.{FollowsFrom}
use Rattle.transactions.proofs.Done.{first_done, none_done}
use Rattle.transactions.proofs.OrderStatusCarriedOut.{order_statuses_are_carried_out, rolled_back_order_statuses_are_carried_out}

-- ---- the customer

-- the customer was read under this claim, and this was found
pub record IsCustomerRead (o : OrderStatus) (found : List Found) (claims : List (List ClaimView)) : Type 0 where
  pub customer : CustomerShown
  pub customers : ClaimView
  pub found_is : found ≡ any_found.OrderStatus (Customer customer) ∷ []
  pub claims_is : claims ≡ (customers ∷ []) ∷ []
  pub shown : IsCustomerShown o customer customers

pub customer_done : (shared : SharedTables) (o : OrderStatus) (found : List Found) (claims : List (List ClaimView))
    → HaveAllDone shared (works_of (ReadCustomer o)) found claims → IsCustomerRead o found claims
customer_done shared o found claims done =
    let one = first_done shared (any_work.OrderStatus (ShowCustomer o)) [] found claims done in
    let none = none_done shared one.others one.rest one.others_done in
    let read = one.done.2 in
    record {
      customer = read.0;
      customers = read.1;
      found_is = one.found_is ∙ (λ i. (one.done.1 ∙ ap any_found.OrderStatus read.2) i ∷ none.0 i);
      claims_is = one.claims_is ∙ (λ i. read.3 i ∷ none.1 i);
      shown = read.4;
    }

-- who found the same, found this
same_customer : (customer other : CustomerShown) → any_found.OrderStatus (Customer customer) ∷ [] ≡ any_found.OrderStatus (Customer other) ∷ [] → customer ≡ other
same_customer customer other same = cc

pub customer_missing : (o : OrderStatus) (found : List Found) → found ≡ any_found.OrderStatus (Customer Missing) ∷ []
    → FollowsFrom (any_progress.OrderStatus (ReadCustomer o)) found (Finish (reply.RolledBack NoCustomer))
customer_missing o found is shared asked held claims known done opening same =
    let read = customer_done shared o found claims done in
    let shown = subst (λ customer. IsCustomerShown o customer read.customers) (same_customer read.customer Missing (sym read.found_is ∙ is)) read.shown in
    let all : held ++ claims ≡ (read.customers ∷ []) ∷ [] = ap (λ xs. xs ++ claims) known.none ∙ read.claims_is in
    subst (λ r. IsCarriedOut opening r (all_claims (held ++ claims)) (reply.RolledBack NoCustomer)) (sym known.is)
    (subst (λ xs. IsCarriedOut opening (request.OrderStatus o) (all_claims xs) (reply.RolledBack NoCustomer)) (sym all)
    (rolled_back_order_statuses_are_carried_out opening o read.customers shown))

pub customer_follows : (o : OrderStatus) (found : List Found) (key : CustomerKey) (customer : StatusCustomer) → found ≡ any_found.OrderStatus (Customer (Shown key customer)) ∷ []
    → FollowsFrom (any_progress.OrderStatus (ReadCustomer o)) found (Next (any_progress.OrderStatus (ReadOrder (record { key = key; customer = customer }))))
customer_follows o found key customer is shared asked held claims known done =
    let read = customer_done shared o found claims done in
    record {
      order_status = o;
      is = known.is;
      accepted = known.accepted;
      customers = read.customers;
      claims = ap (λ xs. xs ++ claims) known.none ∙ read.claims_is;
      shown = subst (λ shown. IsCustomerShown o shown read.customers) (same_customer read.customer (Shown key customer) (sym read.found_is ∙ is)) read.shown;
    }

-- ---- the order

-- the order was read under this claim, and this was found
pub record IsOrderRead (key : CustomerKey) (found : List Found) (claims : List (List ClaimView)) : Type 0 where
  pub order : Option StatusOrder
  pub orders : ClaimView
  pub found_is : found ≡ any_found.OrderStatus (Order order) ∷ []
  pub claims_is : claims ≡ (orders ∷ []) ∷ []
  pub shown : IsOrderShown key order orders

pub order_done : (shared : SharedTables) (given : StatusShown) (found : List Found) (claims : List (List ClaimView))
    → HaveAllDone shared (works_of (ReadOrder given)) found claims → IsOrderRead given.key found claims
order_done shared given found claims done =
    let one = first_done shared (any_work.OrderStatus (ShowOrder given.key)) [] found claims done in
    let none = none_done shared one.others one.rest one.others_done in
    let read = one.done.2 in
    record {
      order = read.0;
      orders = read.1;
      found_is = one.found_is ∙ (λ i. (one.done.1 ∙ ap any_found.OrderStatus read.2) i ∷ none.0 i);
      claims_is = one.claims_is ∙ (λ i. read.3 i ∷ none.1 i);
      shown = read.4;
    }

same_order : (order other : Option StatusOrder) → any_found.OrderStatus (Order order) ∷ [] ≡ any_found.OrderStatus (Order other) ∷ [] → order ≡ other
same_order order other same = cc

pub order_follows : (given : StatusShown) (found : List Found) (order : Option StatusOrder) → found ≡ any_found.OrderStatus (Order order) ∷ []
    → FollowsFrom (any_progress.OrderStatus (ReadOrder given)) found (Finish (reply.Done (kind.OrderStatus (reply_shown given.key given.customer order))))
order_follows given found order is shared asked held claims known done opening same =
    let o = known.order_status in
    let read = order_done shared given found claims done in
    let shown = subst (λ order. IsOrderShown given.key order read.orders) (same_order read.order order (sym read.found_is ∙ is)) read.shown in
    let said = reply.Done (kind.OrderStatus (reply_shown given.key given.customer order)) in
    let all : held ++ claims ≡ (known.customers ∷ []) ∷ (read.orders ∷ []) ∷ [] =
    ap (λ xs. xs ++ claims) known.claims ∙ ap (λ xs. (known.customers ∷ []) ∷ xs) read.claims_is in
    subst (λ r. IsCarriedOut opening r (all_claims (held ++ claims)) said) (sym known.is)
    (subst (λ xs. IsCarriedOut opening (request.OrderStatus o) (all_claims xs) said) (sym all)
    (order_statuses_are_carried_out opening o given.key given.customer order known.customers read.orders known.shown shown))
