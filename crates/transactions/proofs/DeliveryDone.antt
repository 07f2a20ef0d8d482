-- The actions of a Delivery find and do what their definitions state, from the content of the tables when they began.
use Rattle.std.proofs.Common.{◌≡◌, ℕ, true, ◌&&◌, ◌==◌, Option, Some, None, sym, ap, ◌∙◌, arith}
use Rattle.std.proofs.lemmas.Bool.Decides.{nat_tests}
use Rattle.std.specs.Option.{option_and_then}
use Rattle.std.specs.FinMap as table
use Rattle.rows.specs.declared.keys.DistrictKey.{DistrictKey}
use Rattle.rows.specs.declared.keys.OrderKey.{OrderKey}
use Rattle.rows.specs.declared.keys.OrderLineKey.{OrderLineKey}
use Rattle.rows.specs.declared.records.Customer.{Customer}
use Rattle.schema.specs.Scale.{customer_key}
use Rattle.schema.specs.Database.{Database, is_of_district, is_of_order, rows_where}
use Rattle.schema.specs.Consistency.{numbers}
use Rattle.schema.specs.OrderRows.{oldest_new_order, smallest, with_delivery}
use Rattle.schema.proofs.KeyOrders.{customers_total, customers_exact, lines_total, lines_exact, orders_total, orders_exact}
use Rattle.indexes.specs.Namesakes.{Customers}
use Rattle.requests.specs.declared.group.Group.TheVariants as g
use Rattle.requests.specs.declared.group.Group.{Group}
use Rattle.groups.specs.Groups.{group_of_customer, group_of_line, group_of_order, is_same}
use Rattle.groups.specs.Content.{Content, content, rows_of}
use Rattle.groups.specs.Content.Content.{OfOrders}
use Rattle.groups.specs.Laws.{order_in, with_customer}
use Rattle.groups.proofs.Parts.{get-rows_of-own}
use Rattle.groups.proofs.RowsInGroups.{each_row_stands_in_one_group, same_row}
use Rattle.tickets.specs.Claims.{ClaimView, leaving}
use Rattle.slices.specs.Undo.{with_order_delivered}
use Rattle.machine.specs.NewOrder.{order_key}
use Rattle.machine.specs.Delivery.{amount_of, customer_delivered}
use Rattle.machine.proofs.BalanceDelivered.{come_to}
use Rattle.machine.proofs.RowsOfGroups.{rows_where-rows_of}
use Rattle.transactions.specs.declared.delivery.OrderDelivered.{OrderDelivered}
use Rattle.transactions.specs.declared.delivery.CustomerCredited.TheVariants.{Credited, OutOfRange}
use Rattle.transactions.specs.Granted.{IsExclusiveOn, IsFresh}
use Rattle.transactions.specs.Delivery.{IsCreditDone, IsOldestOrder, IsOrderDelivered, row_credited}
use Rattle.transactions.proofs.DeliveryChanges.{order_changes}
use Rattle.transactions.proofs.PaymentDone.{left_here, on_still, recorded_here}

-- ---- the customer of the order

module _
    (t : Database) (home : DistrictKey) (order : OrderDelivered) (was now : ClaimView)
    (on : IsExclusiveOn (g.Customers home.w_id home.d_id) was) (new : IsFresh was) (left : was.left ≡ content t was.group)
  where
    abbrev rows : Customers
    rows = rows_of group_of_customer (g.Customers home.w_id home.d_id) t.customers

    -- it is found among the customers of the district
    found : (row : Option Customer) → row ≡ table.get t.customers (customer_key home order.c_id)
        → row_credited rows home order ≡ option_and_then (λ (r : Customer). customer_delivered r order.amount) row
    found row is =
        ap (option_and_then (λ (r : Customer). customer_delivered r order.amount))
        (get-rows_of-own customers_total customers_exact group_of_customer t.customers (customer_key home order.c_id) ∙ sym is)

    pub customer_is_out : (row : Option Customer) → now ≡ was → row ≡ table.get t.customers (customer_key home order.c_id)
        → option_and_then (λ (r : Customer). customer_delivered r order.amount) row ≡ None → IsCreditDone home order OutOfRange now
    customer_is_out row same is out = record {
      claim = on_still _ was now on was.left same;
      rows = record {
        rows = rows;
        recorded = ap (λ (k : ClaimView). k.recorded) same ∙ recorded_here t _ was on new left;
        out = found row is ∙ out;
      };
    }

    pub customer_is_credited : (row new_row : Customer) → Some row ≡ table.get t.customers (customer_key home order.c_id) → customer_delivered row order.amount ≡ Some new_row
        → now ≡ leaving was (with_customer (customer_key home order.c_id) new_row was.left) → IsCreditDone home order Credited now
    customer_is_credited row new_row is made after = record {
      claim = on_still _ was now on _ after;
      rows = record {
        rows = rows;
        recorded = ap (λ (k : ClaimView). k.recorded) after ∙ recorded_here t _ was on new left;
        new_row = new_row;
        made = found (Some row) is ∙ made;
        left = ap (λ (k : ClaimView). k.left) after ∙ ap (with_customer (customer_key home order.c_id) new_row) (left_here t _ was on new left);
      };
    }

-- ---- the orders of a district

-- what a group of orders has of its district: the number of the oldest new order, and the lines of an order
abbrev oldest_in : DistrictKey → Content → Option ℕ
oldest_in home (OfOrders orders new_orders lines) = smallest (numbers (rows_where (is_of_district home) new_orders))
oldest_in home _ = None

abbrev amount_in : OrderKey → Content → ℕ
amount_in order (OfOrders orders new_orders lines) = come_to (rows_where (is_of_order order) lines)
amount_in order _ = 0

module _ (home : DistrictKey) where
  abbrev own : Group
  own = g.Orders home.w_id home.d_id

  oldest_here : (t : Database) → oldest_in home (content t own) ≡ oldest_new_order t home
  oldest_here t = ap (λ rows. smallest (numbers rows)) (rows_where-rows_of group_of_order own orders_total orders_exact (is_of_district home) (λ k inside. inside) t.new_orders)

  amount_here : (t : Database) (o_id : ℕ) → amount_in (order_key home o_id) (content t own) ≡ amount_of t (order_key home o_id)
  amount_here t o_id = ap come_to (rows_where-rows_of group_of_line own lines_total lines_exact (is_of_order (order_key home o_id)) of_district t.lines)
    where
      of_district : (k : OrderLineKey) → is_of_order (order_key home o_id) k ≡ true → is_same (group_of_line k) own ≡ true
      of_district k inside =
          let it : ((k.w_id == home.w_id) && ((k.d_id == home.d_id) && (k.o_id == o_id))) ≡ true = inside in
          let there : ((k.w_id == home.w_id) && (k.d_id == home.d_id)) ≡ true = grind (arith, nat_tests) in
          there

  -- tables that have the same there have the same oldest new order
  module _ (s t : Database) (alike : content s own ≡ content t own) where
    same_oldest : oldest_new_order s home ≡ oldest_new_order t home
    same_oldest = sym (oldest_here s) ∙ ap (oldest_in home) alike ∙ oldest_here t

    same_order : (order : OrderDelivered) → IsOldestOrder t home order → IsOldestOrder s home order
    same_order order is =
        let key = order_key home order.o_id in
        record {
          oldest = same_oldest ∙ is.oldest;
          row = is.row;
          there = same_row s t s.orders t.orders group_of_order order_in (each_row_stands_in_one_group s).orders (each_row_stands_in_one_group t).orders key alike ∙ is.there;
          customer = is.customer;
          amount = is.amount ∙ sym (amount_here t order.o_id) ∙ ap (amount_in key) (sym alike) ∙ amount_here s order.o_id;
        }

  module _ (t : Database) (carrier moment : ℕ) (was now : ClaimView) (on : IsExclusiveOn own was) (new : IsFresh was) (left : was.left ≡ content t was.group) where
    pub none_is_delivered : now ≡ was → oldest_new_order t home ≡ None → IsOrderDelivered carrier moment home None now
    none_is_delivered same none =
        let claim = on_still own was now on was.left same in
        let recorded : now.recorded ≡ content t own = ap (λ (k : ClaimView). k.recorded) same ∙ recorded_here t own was on new left in
        record {
          claim = claim;
          shown = λ s records. same_oldest s t (ap (content s) (sym claim.group) ∙ records ∙ recorded) ∙ none;
          left = λ s records. ap (λ (k : ClaimView). k.left) same ∙ new.left ∙ sym (ap (λ (k : ClaimView). k.recorded) same) ∙ sym records;
        }

    pub order_is_delivered : (order : OrderDelivered) → IsOldestOrder t home order → now ≡ leaving was (with_order_delivered (order_key home order.o_id) carrier moment was.left)
        → IsOrderDelivered carrier moment home (Some order) now
    order_is_delivered order is after =
        let key = order_key home order.o_id in
        let claim = on_still own was now on _ after in
        let recorded : now.recorded ≡ content t own = ap (λ (k : ClaimView). k.recorded) after ∙ recorded_here t own was on new left in
        record {
          claim = claim;
          shown = λ s records. same_order s t (ap (content s) (sym claim.group) ∙ records ∙ recorded) order is;
          left = λ s records.
              let alike : content s own ≡ content t own = ap (content s) (sym claim.group) ∙ records ∙ recorded in
              ap (λ (k : ClaimView). k.left) after ∙ ap (with_order_delivered key carrier moment) (left_here t own was on new left ∙ sym alike)
              ∙ sym (order_changes key carrier moment s).here ∙ ap (content (with_delivery s key carrier moment)) (sym claim.group);
        }
