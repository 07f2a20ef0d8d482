-- What follows of what the actions of a payment found.
use Rattle.std.proofs.Common.{◌≡◌, ◌∙◌, List, [], ◌∷◌, ◌++◌, refl, ap, sym, subst}
use Rattle.partitions.specs.Parts.{SharedTables}
use Rattle.requests.specs.declared.request.Request.{Request}
use Rattle.requests.specs.declared.request.Request.TheVariants as request
use Rattle.requests.specs.declared.payment.Payment.{Payment}
use Rattle.requests.specs.declared.reply.Fault.{Fault}
use Rattle.requests.specs.declared.reply.Reply.TheVariants as reply
use Rattle.requests.specs.declared.reply.Shown.TheVariants as kind
use Rattle.tickets.specs.Claims.{ClaimView, all_claims}
use Rattle.commit_log.specs.Claimed.{IsCarriedOut}
use Rattle.transactions.specs.declared.payment.Work.TheVariants.{PayHome, PayCustomer, AddPayment}
use Rattle.transactions.specs.declared.payment.Found.TheVariants.{Home, Customer}
use Rattle.transactions.specs.declared.payment.HomePaid.{HomePaid}
use Rattle.transactions.specs.declared.payment.HomePaid.TheVariants as h
use Rattle.transactions.specs.declared.payment.CustomerPaid.{CustomerPaid}
use Rattle.transactions.specs.declared.payment.CustomerPaid.TheVariants as c
use Rattle.transactions.specs.declared.payment.Paid.{Paid}
use Rattle.transactions.specs.declared.payment.Progress.TheVariants.{PayRows, AddRow}
use Rattle.transactions.specs.declared.work.Work.TheVariants as any_work
use Rattle.transactions.specs.declared.work.Found.{Found}
use Rattle.transactions.specs.declared.work.Found.TheVariants as any_found
use Rattle.transactions.specs.declared.progress.Progress.TheVariants as any_progress
use Rattle.transactions.specs.declared.progress.Gathered.{Gathered}
use Rattle.transactions.specs.declared.progress.Gathered.TheVariants.{Finish}
use Rattle.transactions.specs.Granted.{IsAsked}
use Rattle.transactions.specs.Payment.{IsHomePaid, IsCustomerPaid, IsPayerKnown, gathered, works_of}
use Rattle.transactions.specs.Works.{HaveAllDone}
use Rattle.transactions.specs.Progresses.{Follows, FollowsFrom}
use Rattle.transactions.proofs.Done.{first_done, none_done}
use Rattle.transactions.proofs.PaymentCarriedOut.{payments_are_carried_out}
use Rattle.transactions.proofs.PaymentRolledBack.{rolled_back_payments_are_carried_out}

-- ---- the first phase

-- the home rows and the customer's were paid under these claims, and this was found
pub record AreRowsPaid (shared : SharedTables) (p : Payment) (found : List Found) (claims : List (List ClaimView)) : Type 0 where
  pub home : HomePaid
  pub customer : CustomerPaid
  pub warehouse : ClaimView
  pub district : ClaimView
  pub customers : ClaimView
  pub found_is : found ≡ any_found.Payment (Home home) ∷ any_found.Payment (Customer customer) ∷ []
  pub claims_is : claims ≡ (warehouse ∷ district ∷ []) ∷ (customers ∷ []) ∷ []
  pub home_paid : IsHomePaid p home warehouse district
  pub customer_paid : IsCustomerPaid p customer customers
  pub payer : IsPayerKnown shared.scale p customer

pub rows_done : (shared : SharedTables) (p : Payment) (found : List Found) (claims : List (List ClaimView))
    → HaveAllDone shared (works_of (PayRows p)) found claims → AreRowsPaid shared p found claims
rows_done shared p found claims done =
    let one = first_done shared (any_work.Payment (PayHome p)) (any_work.Payment (PayCustomer p) ∷ []) found claims done in
    let two = first_done shared (any_work.Payment (PayCustomer p)) [] one.others one.rest one.others_done in
    let none = none_done shared two.others two.rest two.others_done in
    let home = one.done.2 in
    let customer = two.done.2 in
    record {
      home = home.0;
      customer = customer.0;
      warehouse = home.1;
      district = home.2;
      customers = customer.1;
      found_is = one.found_is ∙ ap (λ others. one.one ∷ others) two.found_is
          ∙ (λ i. (one.done.1 ∙ ap any_found.Payment home.3) i ∷ (two.done.1 ∙ ap any_found.Payment customer.2) i ∷ none.0 i);
      claims_is = one.claims_is ∙ ap (λ rest. one.held ∷ rest) two.claims_is ∙ (λ i. home.4 i ∷ customer.3 i ∷ none.1 i);
      home_paid = home.5;
      customer_paid = customer.4;
      payer = customer.5;
    }

-- who found the same, found this
same_home : (home other : HomePaid) (customer another : CustomerPaid)
    → any_found.Payment (Home home) ∷ any_found.Payment (Customer customer) ∷ [] ≡ any_found.Payment (Home other) ∷ any_found.Payment (Customer another) ∷ [] → home ≡ other
same_home home other customer another same = cc

same_customer : (home other : HomePaid) (customer another : CustomerPaid)
    → any_found.Payment (Home home) ∷ any_found.Payment (Customer customer) ∷ [] ≡ any_found.Payment (Home other) ∷ any_found.Payment (Customer another) ∷ [] → customer ≡ another
same_customer home other customer another same = cc

module _
    (shared : SharedTables) (asked : Request) (p : Payment) (held : List (List ClaimView)) (known : IsAsked shared asked (request.Payment p) held)
    (warehouse district customers : ClaimView) (claims : List (List ClaimView)) (claims_are : claims ≡ (warehouse ∷ district ∷ []) ∷ (customers ∷ []) ∷ [])
  where
    rolled : (home : HomePaid) (customer : CustomerPaid) (fault : Fault) → gathered p home customer ≡ Finish (reply.RolledBack fault)
        → IsHomePaid p home warehouse district → IsCustomerPaid p customer customers → Follows shared asked claims (Finish (reply.RolledBack fault))
    rolled home customer fault back home_paid customer_paid opening same =
        subst (λ r. IsCarriedOut opening r (all_claims claims) (reply.RolledBack fault)) (sym known.is)
        (subst (λ all. IsCarriedOut opening (request.Payment p) (all_claims all) (reply.RolledBack fault)) (sym claims_are)
        (rolled_back_payments_are_carried_out opening p home customer fault warehouse district customers home_paid customer_paid back))

    -- what was found of both, with its claims
    decided : (home : HomePaid) (customer : CustomerPaid) → IsHomePaid p home warehouse district → IsCustomerPaid p customer customers → IsPayerKnown shared.scale p customer
        → Follows shared asked claims (gathered p home customer)
    decided (h.Paid warehouse_name district_name) (c.Paid shown) home_paid customer_paid payer = record {
      is = known.is;
      accepted = known.accepted;
      warehouse = warehouse;
      district = district;
      customers = customers;
      claims = claims_are;
      home = h.Paid warehouse_name district_name;
      customer = c.Paid shown;
      home_paid = home_paid;
      customer_paid = customer_paid;
      payer = payer;
      next = refl;
    }
    decided h.Missing customer home_paid customer_paid payer = rolled h.Missing customer _ refl home_paid customer_paid
    decided h.OutOfRange c.Missing home_paid customer_paid payer = rolled h.OutOfRange c.Missing _ refl home_paid customer_paid
    decided h.OutOfRange c.OutOfRange home_paid customer_paid payer = rolled h.OutOfRange c.OutOfRange _ refl home_paid customer_paid
    decided h.OutOfRange (c.Paid shown) home_paid customer_paid payer = rolled h.OutOfRange (c.Paid shown) _ refl home_paid customer_paid
    decided (h.Paid w d) c.Missing home_paid customer_paid payer = rolled (h.Paid w d) c.Missing _ refl home_paid customer_paid
    decided (h.Paid w d) c.OutOfRange home_paid customer_paid payer = rolled (h.Paid w d) c.OutOfRange _ refl home_paid customer_paid

pub rows_follow : (p : Payment) (found : List Found) (home : HomePaid) (customer : CustomerPaid) (g : Gathered)
    → found ≡ any_found.Payment (Home home) ∷ any_found.Payment (Customer customer) ∷ [] → g ≡ gathered p home customer
    → FollowsFrom (any_progress.Payment (PayRows p)) found g
rows_follow p found home customer g is next shared asked held claims known done =
    let rows = rows_done shared p found claims done in
    let same = sym rows.found_is ∙ is in
    let all : held ++ claims ≡ (rows.warehouse ∷ rows.district ∷ []) ∷ (rows.customers ∷ []) ∷ [] = ap (λ xs. xs ++ claims) known.none ∙ rows.claims_is in
    let known_by = decided shared asked p held known rows.warehouse rows.district rows.customers (held ++ claims) all rows.home rows.customer rows.home_paid rows.customer_paid rows.payer in
    subst (Follows shared asked (held ++ claims))
    ((λ i. gathered p (same_home rows.home home rows.customer customer same i) (same_customer rows.home home rows.customer customer same i)) ∙ sym next) known_by

-- ---- the second phase

pub row_follows : (given : Paid) (found : List Found) → FollowsFrom (any_progress.Payment (AddRow given)) found (Finish (reply.Done (kind.Payment given.reply)))
row_follows given found shared asked held claims known done opening same =
    let p = given.payment in
    let one = first_done shared (any_work.Payment (AddPayment p given.row)) [] found claims done in
    let none = none_done shared one.others one.rest one.others_done in
    let added = one.done.2 in
    let all : held ++ claims ≡ (known.warehouse ∷ known.district ∷ []) ∷ (known.customers ∷ []) ∷ (added.0 ∷ []) ∷ [] =
    ap (λ xs. xs ++ claims) known.claims
    ∙ ap (λ xs. (known.warehouse ∷ known.district ∷ []) ∷ (known.customers ∷ []) ∷ xs) (one.claims_is ∙ (λ i. added.2 i ∷ none.1 i)) in
    subst (λ r. IsCarriedOut opening r (all_claims (held ++ claims)) (reply.Done (kind.Payment given.reply))) (sym known.is)
    (subst (λ xs. IsCarriedOut opening (request.Payment p) (all_claims xs) (reply.Done (kind.Payment given.reply))) (sym all)
    (payments_are_carried_out opening p known.home known.customer given known.warehouse known.district known.customers added.0
    known.home_paid known.customer_paid known.next added.3))
