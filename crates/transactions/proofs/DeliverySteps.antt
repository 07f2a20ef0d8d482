-- What follows of what the actions of a Delivery found.
use Rattle.std.proofs.Common.{◌≡◌, ◌∙◌, List, [], ◌∷◌, ◌++◌, Option, Some, None, ap, sym, subst}
use Rattle.partitions.specs.Parts.{SharedTables}
use Rattle.schema.specs.Database.{Database}
use Rattle.requests.specs.declared.request.Request.TheVariants as request
use Rattle.requests.specs.declared.delivery.Delivery.{Delivery}
use Rattle.requests.specs.declared.reply.Fault.TheVariants.{Range}
use Rattle.requests.specs.declared.reply.Reply.{Reply}
use Rattle.requests.specs.declared.reply.Reply.TheVariants as reply
use Rattle.requests.specs.declared.reply.Shown.TheVariants as kind
use Rattle.tickets.specs.Claims.{ClaimView, all_claims}
use Rattle.commit_log.specs.Claimed.{IsCarriedOut}
use Rattle.machine.specs.Delivery.{delivery_reply}
use Rattle.transactions.specs.declared.delivery.OrderDelivered.{OrderDelivered}
use Rattle.transactions.specs.declared.delivery.CustomerCredited.{CustomerCredited}
use Rattle.transactions.specs.declared.delivery.CustomerCredited.TheVariants.{Credited, OutOfRange}
use Rattle.transactions.specs.declared.delivery.work.Work.TheVariants.{DeliverOrder, CreditCustomer}
use Rattle.transactions.specs.declared.delivery.work.Found.{Found as OwnFound}
use Rattle.transactions.specs.declared.delivery.work.Found.TheVariants.{Order, Customer}
use Rattle.transactions.specs.declared.delivery.phases.Progress.TheVariants as at
use Rattle.transactions.specs.declared.work.Work.TheVariants as any_work
use Rattle.transactions.specs.declared.work.Found.{Found}
use Rattle.transactions.specs.declared.work.Found.TheVariants as any_found
use Rattle.transactions.specs.declared.progress.Progress.TheVariants as any_progress
use Rattle.transactions.specs.declared.progress.Gathered.TheVariants.{Next, Finish}
use Rattle.transactions.specs.Delivery.{IsCreditDone, IsOrderDelivered, works_of}
use Rattle.transactions.specs.Works.{HaveAllDone}
use Rattle.transactions.specs.Progresses.{FollowsFrom}
use Rattle.transactions.proofs.Done.{first_done, none_done}
use Rattle.transactions.proofs.DeliveryCarriedOut.{deliveries_are_carried_out, skipped_deliveries_are_carried_out, rolled_back_deliveries_are_carried_out}

-- ---- the order

-- this was found of the order, and done under this claim
pub record IsOrderDone (d : Delivery) (found : List Found) (claims : List (List ClaimView)) : Type 0 where
  pub order : Option OrderDelivered
  pub orders : ClaimView
  pub found_is : found ≡ any_found.Delivery (Order order) ∷ []
  pub claims_is : claims ≡ (orders ∷ []) ∷ []
  pub done : IsOrderDelivered d.carrier_id d.moment d.home order orders

pub order_done : (shared : SharedTables) (d : Delivery) (found : List Found) (claims : List (List ClaimView))
    → HaveAllDone shared (works_of (at.DeliverOrder d)) found claims → IsOrderDone d found claims
order_done shared d found claims done =
    let one = first_done shared (any_work.Delivery (DeliverOrder d)) [] found claims done in
    let none = none_done shared one.others one.rest one.others_done in
    let own = one.done.2 in
    record {
      order = own.0;
      orders = own.1;
      found_is = one.found_is ∙ (λ i. (one.done.1 ∙ ap (λ (f : OwnFound). any_found.Delivery f) own.2) i ∷ none.0 i);
      claims_is = one.claims_is ∙ (λ i. own.3 i ∷ none.1 i);
      done = own.4;
    }

-- who found the same, found this
same_order : (order other : Option OrderDelivered) → any_found.Delivery (Order order) ∷ [] ≡ any_found.Delivery (Order other) ∷ [] → order ≡ other
same_order order other same = cc

pub order_follows : (d : Delivery) (found : List Found) (order : OrderDelivered) → found ≡ any_found.Delivery (Order (Some order)) ∷ []
    → FollowsFrom (any_progress.Delivery (at.DeliverOrder d)) found (Next (any_progress.Delivery (at.CreditCustomer d order)))
order_follows d found order is shared asked held claims known done =
    let first = order_done shared d found claims done in
    record {
      is = known.is;
      accepted = known.accepted;
      orders = first.orders;
      claims = ap (λ (hs : List (List ClaimView)). hs ++ claims) known.none ∙ first.claims_is;
      done = subst (λ (one : Option OrderDelivered). IsOrderDelivered d.carrier_id d.moment d.home one first.orders) (same_order first.order (Some order) (sym first.found_is ∙ is)) first.done;
    }

pub skipped_follow : (d : Delivery) (found : List Found) → found ≡ any_found.Delivery (Order None) ∷ []
    → FollowsFrom (any_progress.Delivery (at.DeliverOrder d)) found (Finish (reply.Done (kind.Delivery (delivery_reply d None))))
skipped_follow d found is shared asked held claims known done opening same =
    let first = order_done shared d found claims done in
    let skipped = subst (λ (one : Option OrderDelivered). IsOrderDelivered d.carrier_id d.moment d.home one first.orders) (same_order first.order None (sym first.found_is ∙ is)) first.done in
    let all : held ++ claims ≡ (first.orders ∷ []) ∷ [] = ap (λ (hs : List (List ClaimView)). hs ++ claims) known.none ∙ first.claims_is in
    let replied : Reply = reply.Done (kind.Delivery (delivery_reply d None)) in
    subst (λ r. IsCarriedOut opening r (all_claims (held ++ claims)) replied) (sym known.is)
    (subst (λ cs. IsCarriedOut opening (request.Delivery d) (all_claims cs) replied) (sym all)
    (skipped_deliveries_are_carried_out opening d first.orders skipped))

-- ---- the customer

-- this was found of the customer, and done under this claim
pub record IsCustomerDone (d : Delivery) (order : OrderDelivered) (found : List Found) (claims : List (List ClaimView)) : Type 0 where
  pub credited : CustomerCredited
  pub customers : ClaimView
  pub found_is : found ≡ any_found.Delivery (Customer credited) ∷ []
  pub claims_is : claims ≡ (customers ∷ []) ∷ []
  pub done : IsCreditDone d.home order credited customers

pub customer_done : (shared : SharedTables) (d : Delivery) (order : OrderDelivered) (found : List Found) (claims : List (List ClaimView))
    → HaveAllDone shared (works_of (at.CreditCustomer d order)) found claims → IsCustomerDone d order found claims
customer_done shared d order found claims done =
    let one = first_done shared (any_work.Delivery (CreditCustomer d order)) [] found claims done in
    let none = none_done shared one.others one.rest one.others_done in
    let own = one.done.2 in
    record {
      credited = own.0;
      customers = own.1;
      found_is = one.found_is ∙ (λ i. (one.done.1 ∙ ap (λ (f : OwnFound). any_found.Delivery f) own.2) i ∷ none.0 i);
      claims_is = one.claims_is ∙ (λ i. own.3 i ∷ none.1 i);
      done = own.4;
    }

same_customer : (one other : CustomerCredited) → any_found.Delivery (Customer one) ∷ [] ≡ any_found.Delivery (Customer other) ∷ [] → one ≡ other
same_customer one other same = cc

-- under the claims of both phases the Delivery was carried out with the reply that what was found of the customer gives
both_phases : (d : Delivery) (order : OrderDelivered) (found : List Found) (credited : CustomerCredited) (replied : Reply) → found ≡ any_found.Delivery (Customer credited) ∷ []
    → ((opening : Database) (orders customers : ClaimView) → IsOrderDelivered d.carrier_id d.moment d.home (Some order) orders → IsCreditDone d.home order credited customers
    → IsCarriedOut opening (request.Delivery d) (orders ∷ customers ∷ []) replied)
    → FollowsFrom (any_progress.Delivery (at.CreditCustomer d order)) found (Finish replied)
both_phases d order found credited replied is law shared asked held claims known done opening same =
    let second = customer_done shared d order found claims done in
    let customer = subst (λ (one : CustomerCredited). IsCreditDone d.home order one second.customers) (same_customer second.credited credited (sym second.found_is ∙ is)) second.done in
    let all : held ++ claims ≡ (known.orders ∷ []) ∷ (second.customers ∷ []) ∷ [] =
    ap (λ (hs : List (List ClaimView)). hs ++ claims) known.claims ∙ ap (λ (hs : List (List ClaimView)). (known.orders ∷ []) ∷ hs) second.claims_is in
    subst (λ r. IsCarriedOut opening r (all_claims (held ++ claims)) replied) (sym known.is)
    (subst (λ cs. IsCarriedOut opening (request.Delivery d) (all_claims cs) replied) (sym all)
    (law opening known.orders second.customers known.done customer))

pub credited_follow : (d : Delivery) (order : OrderDelivered) (found : List Found) → found ≡ any_found.Delivery (Customer Credited) ∷ []
    → FollowsFrom (any_progress.Delivery (at.CreditCustomer d order)) found (Finish (reply.Done (kind.Delivery (delivery_reply d (Some order.o_id)))))
credited_follow d order found is =
    both_phases d order found Credited (reply.Done (kind.Delivery (delivery_reply d (Some order.o_id)))) is
    (λ opening orders customers delivered credited. deliveries_are_carried_out opening d order orders customers delivered credited)

pub out_follows : (d : Delivery) (order : OrderDelivered) (found : List Found) → found ≡ any_found.Delivery (Customer OutOfRange) ∷ []
    → FollowsFrom (any_progress.Delivery (at.CreditCustomer d order)) found (Finish (reply.RolledBack Range))
out_follows d order found is =
    both_phases d order found OutOfRange (reply.RolledBack Range) is
    (λ opening orders customers delivered out. rolled_back_deliveries_are_carried_out opening d order orders customers delivered out)
