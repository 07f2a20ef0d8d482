-- The actions of an Order-Status are the Order-Status: from tables that their claims record, the machine does the same.
use Rattle.std.proofs.Common.{◌≡◌, Bool, true, false, cond, [], ◌∷◌, Option, Some, None, refl, sym, ap, ◌∙◌}
use Rattle.std.proofs.lemmas.List.Elements.{recursion_from_All}
use Rattle.rows.specs.Keys.{district_of_customer}
use Rattle.rows.specs.declared.keys.CustomerKey.{CustomerKey}
use Rattle.indexes.specs.Namesakes.{Keyed}
use Rattle.requests.specs.declared.group.Group.{Group}
use Rattle.requests.specs.declared.reply.Reply.TheVariants as reply
use Rattle.requests.specs.declared.reply.Shown.TheVariants as kind
use Rattle.requests.specs.declared.reply.Fault.TheVariants.{NoCustomer}
use Rattle.groups.specs.Groups.{is_same}
use Rattle.groups.specs.Content.{Content, content}
use Rattle.groups.specs.declared.group_wants.Mode.{Mode}
use Rattle.groups.specs.declared.group_wants.Mode.TheVariants.{Shared}
use Rattle.tickets.specs.Claims.{ClaimView, committed_by}
use Rattle.tickets.specs.Committed.{RecordsContent, content_after}
use Rattle.machine.specs.Chosen.{chosen}
use Rattle.machine.specs.Outcome.{Outcome, rolled_back}
use Rattle.machine.specs.OrderStatus.{latest_shown, order_status, status_recorded}
use Rattle.machine.proofs.ChosenRows.{chosen_there}
use Rattle.transactions.specs.declared.order_status.StatusCustomer.{StatusCustomer}
use Rattle.transactions.specs.declared.order_status.CustomerShown.TheVariants.{Missing, Shown}
use Rattle.transactions.specs.OrderStatus.{customer_shown, reply_shown, status_customer}
use Rattle.transactions.specs.OrderStatusLaws.{OrderStatusesAreCarriedOut, RolledBackOrderStatusesAreCarriedOut, ShownCustomersAreAtHome}
use Rattle.transactions.proofs.Recorded.{chosen_recorded}

-- ---- who was shown

record IsKeyed (key : CustomerKey) (customer : StatusCustomer) (choice : Option Keyed) : Type 0 where
  one : Keyed
  there : choice ≡ Some one
  key_is : key ≡ one.0
  customer_is : customer ≡ status_customer one.1

-- what is shown is a customer's who was chosen
was_chosen : (key : CustomerKey) (customer : StatusCustomer) (choice : Option Keyed) → Shown key customer ≡ customer_shown choice → IsKeyed key customer choice
was_chosen key customer (Some c) is = record { one = c; there = refl; key_is = cc; customer_is = cc }
was_chosen key customer None is = absurd cc

-- no customer was chosen
none_chosen : (choice : Option Keyed) → Missing ≡ customer_shown choice → choice ≡ None
none_chosen (Some c) is = absurd cc
none_chosen None is = refl

pub shown_customers_are_at_home : ShownCustomersAreAtHome
shown_customers_are_at_home o key customer customers found =
    let by = was_chosen key customer (chosen found.rows o.home o.customer) found.shown in
    ap district_of_customer (by.key_is ∙ (chosen_there found.rows o.home o.customer by.one by.there).1)

-- ---- a shared claim changes nothing

pub shared_settles : (group : Group) (has : Content) (claim : ClaimView) → claim.mode ≡ Shared → has ≡ content_after group has claim
shared_settles group has claim shared =
    each (is_same claim.group group)
    ∙ sym (ap (λ (mode : Mode). cond (is_same claim.group group) (committed_by mode claim.left has) has) shared)
  where
    each : (same : Bool) → has ≡ cond same has has
    each true = refl
    each false = refl

-- ---- carried out

pub order_statuses_are_carried_out : OrderStatusesAreCarriedOut
order_statuses_are_carried_out opening o key customer order customers orders found read t scale items all =
    let records = recursion_from_All (RecordsContent (content t)) (customers ∷ orders ∷ []) all in
    let by = was_chosen key customer (chosen found.rows o.home o.customer) found.shown in
    let there : chosen t.customers o.home o.customer ≡ Some by.one = chosen_recorded t o.home o.customer customers records.0 found.claim.group found.rows found.recorded ∙ by.there in
    let done : order_status t o ≡ status_recorded t (Some by.one) = ap (status_recorded t) there in
    let shown : reply_shown by.one.0 (status_customer by.one.1) (latest_shown t by.one.0) ≡ reply_shown key customer order =
    (λ i. reply_shown (sym by.key_is i) (sym by.customer_is i) (latest_shown t (sym by.key_is i))) ∙ ap (reply_shown key customer) (sym (read.shown t records.1.0)) in (
      ap (λ (out : Outcome). out.reply) done ∙ ap (λ r. reply.Done (kind.OrderStatus r)) shown,
      λ group.
          ap (λ (out : Outcome). content out.tables group) done
          ∙ shared_settles group (content t group) customers found.claim.mode
          ∙ shared_settles group (content_after group (content t group) customers) orders read.claim.mode,
    )

pub rolled_back_order_statuses_are_carried_out : RolledBackOrderStatusesAreCarriedOut
rolled_back_order_statuses_are_carried_out opening o customers found t scale items all =
    let records = recursion_from_All (RecordsContent (content t)) (customers ∷ []) all in
    let none : chosen t.customers o.home o.customer ≡ None =
    chosen_recorded t o.home o.customer customers records.0 found.claim.group found.rows found.recorded ∙ none_chosen (chosen found.rows o.home o.customer) found.shown in
    let done : order_status t o ≡ rolled_back t NoCustomer = ap (status_recorded t) none in
    (ap (λ (out : Outcome). out.reply) done, λ group. ap (λ (out : Outcome). content out.tables group) done)
