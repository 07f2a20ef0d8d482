-- The actions of a payment, together, are the payment.
use Rattle.std.specs.Prelude.{◌≡◌, [], ◌∷◌, IsTrue}
use Rattle.schema.specs.declared.scale.Scale.{Scale}
use Rattle.schema.specs.Scale.{has_customer, has_district}
use Rattle.schema.specs.Database.{Database}
use Rattle.requests.specs.declared.payment.Payment.{Payment}
use Rattle.requests.specs.declared.request.Request.TheVariants as request
use Rattle.requests.specs.declared.reply.Fault.{Fault}
use Rattle.requests.specs.declared.reply.Reply.TheVariants as reply
use Rattle.requests.specs.declared.reply.Shown.TheVariants as kind
use Rattle.requests.specs.Check.{IsAccepted}
use Rattle.tickets.specs.Claims.{ClaimView}
use Rattle.commit_log.specs.Claimed.{IsCarriedOut}
use Rattle.transactions.specs.declared.payment.HomePaid.{HomePaid}
use Rattle.transactions.specs.declared.payment.CustomerPaid.{CustomerPaid}
use Rattle.transactions.specs.declared.payment.Paid.{Paid}
use Rattle.transactions.specs.declared.payment.Progress.TheVariants.{AddRow}
use Rattle.transactions.specs.declared.progress.Progress.TheVariants as any_progress
use Rattle.transactions.specs.declared.progress.Gathered.TheVariants.{Next, Finish}
use Rattle.transactions.specs.Payment.{IsHomePaid, IsCustomerPaid, IsPayerKnown, IsPaymentAdded, gathered}

-- If its home rows and its customer's row were paid and its row was added to the list of payments, the payment was carried out
-- under these claims with this reply.
abbrev pub PaymentsAreCarriedOut : Type 0
PaymentsAreCarriedOut =
    (opening : Database) (p : Payment) (home : HomePaid) (customer : CustomerPaid) (given : Paid)
    (warehouse district customers history : ClaimView)
    → IsHomePaid p home warehouse district → IsCustomerPaid p customer customers
    → gathered p home customer ≡ Next (any_progress.Payment (AddRow given)) → IsPaymentAdded p given.row history
    → IsCarriedOut opening (request.Payment p) (warehouse ∷ district ∷ customers ∷ history ∷ []) (reply.Done (kind.Payment given.reply))

-- If what was found requires a rollback, the payment was carried out with this fault as its reply.
abbrev pub RolledBackPaymentsAreCarriedOut : Type 0
RolledBackPaymentsAreCarriedOut =
    (opening : Database) (p : Payment) (home : HomePaid) (customer : CustomerPaid) (fault : Fault)
    (warehouse district customers : ClaimView)
    → IsHomePaid p home warehouse district → IsCustomerPaid p customer customers
    → gathered p home customer ≡ Finish (reply.RolledBack fault)
    → IsCarriedOut opening (request.Payment p) (warehouse ∷ district ∷ customers ∷ []) (reply.RolledBack fault)

-- The customer of the row that is added to the list of payments is of the scale, since the customer's row was paid.
abbrev pub GatheredPayersAreKnown : Type 0
GatheredPayersAreKnown =
    (scale : Scale) (p : Payment) (home : HomePaid) (customer : CustomerPaid) (given : Paid)
    → gathered p home customer ≡ Next (any_progress.Payment (AddRow given)) → IsPayerKnown scale p customer → IsTrue (has_customer scale given.row.customer)

-- The scale has the home district of an accepted payment.
abbrev pub AcceptedPaymentsHaveTheirDistrict : Type 0
AcceptedPaymentsHaveTheirDistrict =
    (scale : Scale) (p : Payment) → IsAccepted scale (request.Payment p) → IsTrue (has_district scale p.home)
