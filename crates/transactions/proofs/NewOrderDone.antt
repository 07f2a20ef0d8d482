-- The actions of a New-Order at its home find and do what their definitions state, from the content of the tables when they
-- began.
use Rattle.std.proofs.Common.{◌≡◌, ◌+◌, ℕ, List, [], ◌∷◌, map, Some, sym, ap, ◌∙◌, refl}
use Rattle.std.specs.FinMap as table
use Rattle.rows.specs.declared.keys.OrderKey.{OrderKey}
use Rattle.rows.specs.declared.records.OrderLine.{OrderLine}
use Rattle.schema.specs.Scale.{customer_key}
use Rattle.schema.specs.Database.{Database}
use Rattle.schema.specs.OrderRows.{LineTable, line_key, put_lines, with_order}
use Rattle.schema.proofs.KeyOrders.{customers_total, customers_exact, lines_total, lines_exact, orders_total, orders_exact}
use Rattle.indexes.specs.Namesakes.{Customers}
use Rattle.requests.specs.declared.group.Group.{Group}
use Rattle.requests.specs.declared.group.Group.TheVariants as g
use Rattle.requests.specs.declared.new_order.NewOrder.{NewOrder}
use Rattle.groups.specs.Groups.{group_of_customer, group_of_line, group_of_order}
use Rattle.groups.specs.Content.{content, rows_of}
use Rattle.groups.specs.Content.Content.{OfCustomers, OfOrders}
use Rattle.groups.specs.declared.group_wants.Mode.TheVariants.{Shared}
use Rattle.groups.proofs.Parts.{get-rows_of-own, rows_of-insert_own}
use Rattle.tickets.specs.Claims.{ClaimView, leaving}
use Rattle.slices.specs.Undo.{with_order_more}
use Rattle.transactions.specs.declared.new_order.OrderRows.{OrderRows}
use Rattle.transactions.specs.declared.new_order.OrdererFound.{OrdererFound}
use Rattle.transactions.specs.Granted.{IsExclusiveOn, IsFresh, IsSharedOn}
use Rattle.transactions.specs.NewOrder.{IsOrderAdded, IsOrdererShown, orderer_found}

-- the customer
pub orderer_is_shown : (t : Database) (n : NewOrder) (found : OrdererFound) (was now : ClaimView) → IsSharedOn (g.Customers n.home.w_id n.home.d_id) was
    → was.left ≡ content t was.group → (was.mode ≡ Shared → was.left ≡ was.recorded) → now ≡ was → found ≡ orderer_found (table.get t.customers (customer_key n.home n.c_id)) → IsOrdererShown n found now
orderer_is_shown t n found was now on left untouched same is =
    let own : Group = g.Customers n.home.w_id n.home.d_id in
    let rows : Customers = rows_of group_of_customer own t.customers in
    let recorded : now.recorded ≡ OfCustomers rows = ap (λ (k : ClaimView). k.recorded) same ∙ sym (untouched on.mode) ∙ left ∙ ap (content t) on.group in
    record {
      claim = record { group = ap (λ (k : ClaimView). k.group) same ∙ on.group; mode = ap (λ (k : ClaimView). k.mode) same ∙ on.mode };
      rows = rows;
      recorded = recorded;
      shown = is ∙ ap orderer_found (sym (get-rows_of-own customers_total customers_exact group_of_customer t.customers (customer_key n.home n.c_id)));
    }

-- ---- the order

-- a district has its orders with one more
lines_here : (key : OrderKey) (number : ℕ) (rows : List OrderLine) (lines : LineTable)
    → rows_of group_of_line (group_of_order key) (put_lines key number (map Some rows) lines) ≡ put_lines key number (map Some rows) (rows_of group_of_line (group_of_order key) lines)
lines_here key number [] lines = refl
lines_here key number (row ∷ rows) lines =
    rows_of-insert_own lines_total lines_exact group_of_line (put_lines key (number + 1) (map Some rows) lines) (line_key key number) row
    ∙ ap (λ rest. table.insert rest (line_key key number) row) (lines_here key (number + 1) rows lines)

order_here : (t : Database) (order : OrderRows) → content (with_order t order.key order.row order.lines) (group_of_order order.key) ≡ with_order_more order.key order.row order.lines (content t (group_of_order order.key))
order_here t order =
    let orders = rows_of-insert_own orders_total orders_exact group_of_order t.orders order.key order.row in
    let new_orders = rows_of-insert_own orders_total orders_exact group_of_order t.new_orders order.key (record {}) in
    let lines = lines_here order.key 1 order.lines t.lines in
    λ i. OfOrders (orders i) (new_orders i) (lines i)

pub order_is_added : (t : Database) (order : OrderRows) (was now : ClaimView) → IsExclusiveOn (g.Orders order.key.w_id order.key.d_id) was → IsFresh was → was.left ≡ content t was.group
    → now ≡ leaving was (with_order_more order.key order.row order.lines was.left) → IsOrderAdded order now
order_is_added t order was now on new left after =
    let group : now.group ≡ was.group = ap (λ (k : ClaimView). k.group) after in
    record {
      claim = record { group = group ∙ on.group; mode = ap (λ (k : ClaimView). k.mode) after ∙ on.mode };
      left = λ s records.
          let own : now.group ≡ group_of_order order.key = group ∙ on.group in
          let had : was.left ≡ content s (group_of_order order.key) = new.left ∙ sym (ap (λ (k : ClaimView). k.recorded) after) ∙ sym records ∙ ap (content s) own in
          ap (λ (k : ClaimView). k.left) after ∙ ap (with_order_more order.key order.row order.lines) had ∙ sym (order_here s order)
          ∙ sym (ap (content (with_order s order.key order.row order.lines)) own);
    }
