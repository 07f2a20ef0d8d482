-- The actions of a payment are the payment: from tables that their claims record, the machine does the same.
use Rattle.std.proofs.Common.{◌≡◌, ℕ, [], ◌∷◌, ◌++◌, List, Some, unwrap_or, refl, sym, ap, subst, ◌∙◌}
use Rattle.std.specs.Prelude.{pos}
use Rattle.std.proofs.lemmas.List.Elements.{recursion_from_All}
use Rattle.std.specs.List.{AllByRecursion}
use Rattle.rows.specs.declared.records.History.{History}
use Rattle.schema.specs.Scale.{customer_key}
use Rattle.schema.specs.Database.{Database}
use Rattle.requests.specs.declared.group.Group.{Group}
use Rattle.requests.specs.declared.group.Group.TheVariants as g
use Rattle.requests.specs.declared.payment.Payment.{Payment}
use Rattle.requests.specs.declared.payment.PaymentReply.{PaymentReply}
use Rattle.requests.specs.declared.reply.Reply.TheVariants as reply
use Rattle.requests.specs.declared.reply.Shown.TheVariants as kind
use Rattle.groups.specs.Content.{content}
use Rattle.groups.specs.Content.Content.{OfHistory}
use Rattle.groups.specs.Laws.{with_customer}
use Rattle.tickets.specs.Claims.{ClaimView}
use Rattle.tickets.specs.Committed.{RecordsContent, content_after, contents_after}
use Rattle.machine.specs.Outcome.{Outcome}
use Rattle.machine.specs.Payment.{payment, posted, posting, payment_row, history_row}
use Rattle.machine.proofs.ChosenRows.{chosen_there}
use Rattle.machine.proofs.Payments.{payment-posted}
use Rattle.machine.proofs.PaymentGroups as puts
use Rattle.transactions.specs.declared.payment.HomePaid.TheVariants as h
use Rattle.transactions.specs.declared.payment.CustomerPaid.TheVariants as c
use Rattle.transactions.specs.declared.payment.Paid.{Paid}
use Rattle.transactions.specs.Granted.{IsExclusiveOn}
use Rattle.transactions.specs.Payment.{AreHomeRowsPaid, IsCustomerRowPaid, IsPaymentAdded, paid_with}
use Rattle.transactions.specs.PaymentLaws.{PaymentsAreCarriedOut}
use Rattle.transactions.proofs.Settled.{put-settles}
use Rattle.transactions.proofs.Recorded as recorded

-- ---- carried out

module _
    (p : Payment) (row : History) (shown : PaymentReply) (warehouse_name district_name : List ℕ) (warehouse district customers history : ClaimView)
    (on_warehouse : IsExclusiveOn (g.Warehouse p.home.w_id) warehouse)
    (on_district : IsExclusiveOn (g.District p.home.w_id p.home.d_id) district)
    (on_customers : IsExclusiveOn (g.Customers p.customer_home.w_id p.customer_home.d_id) customers)
    (home : AreHomeRowsPaid p warehouse_name district_name warehouse district)
    (customer : IsCustomerRowPaid p shown customers)
    (added : IsPaymentAdded p row history)
    (row_is : row ≡ history_row p (customer_key p.customer_home shown.c_id) warehouse_name district_name)
  where
    -- the payer is the customer whom the reply shows
    of_home : customer.key ≡ customer_key p.customer_home customer.key.c_id
    of_home = (chosen_there customer.rows p.customer_home p.customer (customer.key, customer.row) customer.there).1

    payer_shown : customer_key p.customer_home shown.c_id ≡ customer.key
    payer_shown = ap (λ (r : PaymentReply). customer_key p.customer_home r.c_id) customer.shown ∙ sym of_home

    abbrev claims : List ClaimView
    claims = warehouse ∷ district ∷ customers ∷ history ∷ []

    module _ (t : Database) (records : AllByRecursion (RecordsContent (content t)) claims) where
      abbrev left : Database
      left = puts.left p customer.key of_home home.new_warehouse home.new_district customer.new_row row t

      carried : payment t p ≡ posted t (posting p customer.key row) (Some home.new_warehouse) (Some home.new_district) (Some customer.new_row)
      carried =
          let warehouse_there = recorded.warehouse_recorded t p warehouse records.0 (Some home.warehouse_row) on_warehouse home.warehouse_recorded in
          let district_there = recorded.district_recorded t p district records.1.0 (Some home.district_row) on_district home.district_recorded in
          let customer_there = recorded.customer_recorded t p customers records.1.1.0 on_customers customer.rows customer.recorded ∙ customer.there in
          let row_named : row ≡ payment_row p customer.key home.warehouse_row home.district_row =
          row_is ∙ (λ i. history_row p (payer_shown i) (home.warehouse_named i) (home.district_named i)) in
          payment-posted t p (pos p.amount) row home.warehouse_row home.district_row (customer.key, customer.row) home.new_warehouse home.new_district customer.new_row
          refl warehouse_there district_there customer_there row_named home.warehouse_made home.district_made customer.made

      warehouse_settles : (group : Group) → content (puts.with_w p customer.key of_home home.new_warehouse home.new_district customer.new_row row t) group ≡ content_after group (content t group) warehouse
      warehouse_settles = put-settles _ _ _ _ (puts.w_put p customer.key of_home home.new_warehouse home.new_district customer.new_row row t) warehouse on_warehouse home.warehouse_left

      district_settles : (group : Group)
          → content (puts.with_d p customer.key of_home home.new_warehouse home.new_district customer.new_row row t) group
          ≡ content_after group (content (puts.with_w p customer.key of_home home.new_warehouse home.new_district customer.new_row row t) group) district
      district_settles = put-settles _ _ _ _ (puts.d_put p customer.key of_home home.new_warehouse home.new_district customer.new_row row t) district on_district home.district_left

      customers_settle : (group : Group)
          → content (puts.with_c p customer.key of_home home.new_warehouse home.new_district customer.new_row row t) group
          ≡ content_after group (content (puts.with_d p customer.key of_home home.new_warehouse home.new_district customer.new_row row t) group) customers
      customers_settle =
          let made = ap (with_customer customer.key customer.new_row) (recorded.customers_recorded t p customers records.1.1.0 on_customers customer.rows customer.recorded) in
          put-settles _ _ _ _ (puts.c_put p customer.key of_home home.new_warehouse home.new_district customer.new_row row t) customers
          on_customers (customer.left ∙ sym made)

      history_settles : (group : Group) → content left group ≡ content_after group (content (puts.with_c p customer.key of_home home.new_warehouse home.new_district customer.new_row row t) group) history
      history_settles =
          let listed = recorded.history_recorded t p history records.1.1.1.0 added.rows added.claim added.recorded in
          put-settles _ _ _ _ (puts.h_put p customer.key of_home home.new_warehouse home.new_district customer.new_row row t) history added.claim
          (added.left ∙ ap (λ rows. OfHistory (Some (unwrap_or rows [] ++ row ∷ []))) (sym listed))

      settled : (group : Group) → content left group ≡ contents_after group (content t group) claims
      settled group =
          history_settles group
          ∙ ap (λ has. content_after group has history)
          (customers_settle group ∙ ap (λ has. content_after group has customers)
          (district_settles group ∙ ap (λ has. content_after group has district) (warehouse_settles group)))

      carried_out : ((payment t p).reply ≡ reply.Done (kind.Payment shown)) × ((group : Group) → content (payment t p).tables group ≡ contents_after group (content t group) claims)
      carried_out = (
        ap (λ (o : Outcome). o.reply) carried ∙ ap (λ r. reply.Done (kind.Payment r)) (sym customer.shown),
        λ group. ap (λ (o : Outcome). content o.tables group) carried ∙ settled group,
      )

pub payments_are_carried_out : PaymentsAreCarriedOut
payments_are_carried_out opening p (h.Paid warehouse_name district_name) (c.Paid reply) given warehouse district customers history home customer found added =
    let is : paid_with p reply warehouse_name district_name ≡ given = cc in
    let shown_is : reply ≡ given.reply = ap (λ (paid : Paid). paid.reply) is in
    let row_is : given.row ≡ history_row p (customer_key p.customer_home reply.c_id) warehouse_name district_name = ap (λ (paid : Paid). paid.row) (sym is) in
    λ t scale items records.
    carried_out p given.row given.reply warehouse_name district_name warehouse district customers history home.warehouse_claim home.district_claim customer.claim home.rows
    (subst (λ r. IsCustomerRowPaid p r customers) shown_is customer.rows) added (row_is ∙ ap (λ (r : PaymentReply). history_row p (customer_key p.customer_home r.c_id) warehouse_name district_name) shown_is) t
    (recursion_from_All (RecordsContent (content t)) (warehouse ∷ district ∷ customers ∷ history ∷ []) records)
payments_are_carried_out opening p h.Missing customer given w d cu hi is_home is_customer found added = absurd cc
payments_are_carried_out opening p h.OutOfRange c.Missing given w d cu hi is_home is_customer found added = absurd cc
payments_are_carried_out opening p h.OutOfRange c.OutOfRange given w d cu hi is_home is_customer found added = absurd cc
payments_are_carried_out opening p h.OutOfRange (c.Paid reply) given w d cu hi is_home is_customer found added = absurd cc
payments_are_carried_out opening p (h.Paid warehouse_name district_name) c.Missing given w d cu hi is_home is_customer found added = absurd cc
payments_are_carried_out opening p (h.Paid warehouse_name district_name) c.OutOfRange given w d cu hi is_home is_customer found added = absurd cc
