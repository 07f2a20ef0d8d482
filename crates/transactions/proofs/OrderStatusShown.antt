-- What the actions of an Order-Status find, by the content of the tables.
use Rattle.std.proofs.Common.{◌≡◌, Option, sym, ap, ◌∙◌}
use Rattle.rows.specs.Keys.{district_of_customer}
use Rattle.rows.specs.declared.keys.CustomerKey.{CustomerKey}
use Rattle.schema.specs.Database.{Database}
use Rattle.indexes.specs.Namesakes.{Customers}
use Rattle.requests.specs.declared.group.Group.{Group}
use Rattle.requests.specs.declared.group.Group.TheVariants as g
use Rattle.requests.specs.declared.order_status.OrderStatus.{OrderStatus}
use Rattle.requests.specs.declared.order_status.StatusOrder.{StatusOrder}
use Rattle.groups.specs.Groups.{group_of_customer}
use Rattle.groups.specs.Content.{content, rows_of}
use Rattle.groups.specs.Content.Content.{OfCustomers}
use Rattle.groups.specs.declared.group_wants.Mode.TheVariants.{Shared}
use Rattle.tickets.specs.Claims.{ClaimView}
use Rattle.machine.specs.Chosen.{chosen}
use Rattle.machine.specs.OrderStatus.{latest_shown}
use Rattle.machine.proofs.StatusGroups.{same_shown}
use Rattle.transactions.specs.declared.order_status.CustomerShown.{CustomerShown}
use Rattle.transactions.specs.Granted.{IsSharedOn}
use Rattle.transactions.specs.OrderStatus.{IsCustomerShown, IsOrderShown, customer_shown}
use Rattle.transactions.proofs.Recorded.{chosen_recorded}

-- a shared claim on a group: it leaves the content that it records, and is unchanged
module _
    (t : Database) (own : Group) (was now : ClaimView)
    (on : IsSharedOn own was) (left : was.left ≡ content t was.group) (untouched : was.mode ≡ Shared → was.left ≡ was.recorded) (same : now ≡ was)
  where
    pub on_still : IsSharedOn own now
    on_still = record { group = ap (λ (k : ClaimView). k.group) same ∙ on.group; mode = ap (λ (k : ClaimView). k.mode) same ∙ on.mode }

    pub recorded_here : now.recorded ≡ content t own
    recorded_here = ap (λ (k : ClaimView). k.recorded) same ∙ sym (untouched on.mode) ∙ left ∙ ap (content t) on.group

-- the customer
pub customer_is_shown : (t : Database) (o : OrderStatus) (found : CustomerShown) (was now : ClaimView) → IsSharedOn (g.Customers o.home.w_id o.home.d_id) was
    → was.left ≡ content t was.group → (was.mode ≡ Shared → was.left ≡ was.recorded) → now ≡ was → found ≡ customer_shown (chosen t.customers o.home o.customer) → IsCustomerShown o found now
customer_is_shown t o found was now on left untouched same is =
    let own : Group = g.Customers o.home.w_id o.home.d_id in
    let rows : Customers = rows_of group_of_customer own t.customers in
    let claim = on_still t own was now on left untouched same in
    let recorded : now.recorded ≡ OfCustomers rows = recorded_here t own was now on left untouched same in
    record {
      claim = claim;
      rows = rows;
      recorded = recorded;
      shown = is ∙ ap customer_shown (chosen_recorded t o.home o.customer now (ap (content t) claim.group ∙ sym recorded) claim.group rows recorded);
    }

-- the last order
pub order_is_shown : (t : Database) (key : CustomerKey) (order : Option StatusOrder) (was now : ClaimView) → IsSharedOn (g.Orders key.w_id key.d_id) was
    → was.left ≡ content t was.group → (was.mode ≡ Shared → was.left ≡ was.recorded) → now ≡ was → order ≡ latest_shown t key → IsOrderShown key order now
order_is_shown t key order was now on left untouched same is =
    let own : Group = g.Orders key.w_id key.d_id in
    let claim = on_still t own was now on left untouched same in
    record {
      claim = claim;
      shown = λ s records.
          let alike : content t own ≡ content s own = sym (recorded_here t own was now on left untouched same) ∙ sym records ∙ ap (content s) claim.group in
          is ∙ same_shown (district_of_customer key) t s alike key.c_id;
    }
