-- An order of a warehouse's that is delivered, or whose delivery is taken back: the rows still make a part.
use Rattle.std.proofs.Common.{◌≡◌, ℕ, Bool, true, false, cond, ◌-◌, slice_index_or, Option, Some, None, IsTrue, is_some, refl, sym, subst, ◌∙◌}
use Rattle.std.specs.Option.{option_map}
use Rattle.std.specs.declared.cmp.Ordering.{Ordering}
use Rattle.std.specs.declared.cmp.Ordering.TheVariants.{Less, Equal, Greater}
use Rattle.std.specs.Ordering.{eq_by_cmp, is_eq}
use Rattle.std.specs.FinMap as table
use Rattle.std.specs.FinMap.{FinMap, get, IsAntisymmetric}
use Rattle.rows.specs.declared.keys.OrderKey.{OrderKey}
use Rattle.rows.specs.declared.keys.OrderLineKey.{OrderLineKey}
use Rattle.rows.specs.declared.records.Order.{Order}
use Rattle.rows.specs.declared.records.NewOrder.{NewOrder}
use Rattle.rows.specs.declared.records.OrderLine.{OrderLine}
use Rattle.rows.specs.Keys.{order_cmp, order_of_line}
use Rattle.schema.specs.EachRow.{EachRow}
use Rattle.schema.specs.MapRows.{map_rows, put_row}
use Rattle.schema.specs.Scale.{has_item, has_warehouse, has_customer}
use Rattle.schema.specs.Database.{customer_of_order, is_order_id, is_line_number, is_of_order}
use Rattle.schema.specs.OrderRows.{with_carrier, with_moment, with_delivery, is_order, carried_by, delivered_at}
use Rattle.schema.proofs.KeyOrders.{orders_total, orders_exact, lines_exact}
use Rattle.schema.proofs.OrdersKept.{contains-map_rows}
use Rattle.schema.proofs.TableWrites.{get-map_rows, get-put_row}
use Rattle.partitions.specs.declared.delivery_rows.BeforeDelivery.{BeforeDelivery}
use Rattle.partitions.specs.Deliveries.{with_carrier_back, with_moments_back, without_delivery}
use Rattle.partitions.specs.Parts.{Part, IsPart, is_of}

-- rows that are changed pass the test that they passed
each_changed : {K X : Type 0} {R : K → K → Ordering} → IsAntisymmetric R → (test : K → X → Bool) (f : K → X → X) (m : FinMap R X)
    → ((k : K) (x : X) → test k (f k x) ≡ test k x) → EachRow test m → EachRow test (map_rows f m)
each_changed {K} {X} {R} a test f m same each k x found =
    from (get m k) refl (sym (get-map_rows R f a m k) ∙ found)
  where
    from : (r : Option X) → get m k ≡ r → option_map (f k) r ≡ Some x → IsTrue (test k x)
    from None e h = absurd cc
    from (Some y) e h =
        let is : f k y ≡ x = cc in
        subst (λ z. IsTrue (test k z)) is (same k y ∙ each k y e)

is_equal : (r : Ordering) → is_eq r ≡ true → r ≡ Equal
is_equal Less h = absurd cc
is_equal Equal h = refl
is_equal Greater h = absurd cc

module _ (p : Part) (h : IsPart p) where
  -- a key that has an order is of the warehouse
  order_here : (key : OrderKey) → IsTrue (table.contains_key p.tables.orders key) → IsTrue (is_of p.home key.w_id)
  order_here key there =
      elim (get p.tables.orders key) as (λ r. get p.tables.orders key ≡ r → IsTrue (is_some r) → IsTrue (is_of p.home key.w_id)) [
        | None ↦ λ e f. absurd cc
        | Some row ↦ λ e f. h.orders_here key row e
      ] refl there

  -- a new order's number is in range
  pub new_numbered : EachRow (λ key _. is_order_id key.o_id) p.tables.new_orders
  new_numbered key row found =
      elim (get p.tables.orders key) as (λ r. get p.tables.orders key ≡ r → IsTrue (is_some r) → IsTrue (is_order_id key.o_id)) [
        | None ↦ λ e f. absurd cc
        | Some order ↦ λ e f. h.orders_numbered key order e
      ] refl (h.new_orders_have_orders key row found)

  module _ (key : OrderKey) (there : IsTrue (table.contains_key p.tables.orders key)) (row : Option NewOrder) (f : OrderKey → Order → Order) (g : OrderLineKey → OrderLine → OrderLine)
      (same_customer : (k : OrderKey) (r : Order) → has_customer p.tables.scale (customer_of_order k (f k r)) ≡ has_customer p.tables.scale (customer_of_order k r))
      (same_item : (k : OrderLineKey) (r : OrderLine) → has_item p.tables.scale (g k r).i_id ≡ has_item p.tables.scale r.i_id)
      (same_supplier : (k : OrderLineKey) (r : OrderLine) → has_warehouse p.tables.scale (g k r).supply_w_id ≡ has_warehouse p.tables.scale r.supply_w_id) where
    still : (k : OrderKey) → IsTrue (table.contains_key p.tables.orders k) → IsTrue (table.contains_key (map_rows f p.tables.orders) k)
    still k is = contains-map_rows orders_exact f p.tables.orders k ∙ is

    new_has_order : EachRow (λ k _. table.contains_key p.tables.orders k) (put_row p.tables.new_orders key row)
    new_has_order k r found =
        elim (eq_by_cmp order_cmp k key) as (λ b. eq_by_cmp order_cmp k key ≡ b → cond b row (get p.tables.new_orders k) ≡ Some r → IsTrue (table.contains_key p.tables.orders k)) [
          | true ↦ λ e f. subst (λ q. IsTrue (table.contains_key p.tables.orders q)) (sym (orders_exact k key (is_equal _ e))) there
          | false ↦ λ e f. h.new_orders_have_orders k r f
        ] refl (sym (get-put_row orders_total orders_exact p.tables.new_orders key row k) ∙ found)

    pub part_changed : IsPart (record p { tables = record p.tables { orders = map_rows f p.tables.orders; new_orders = put_row p.tables.new_orders key row; lines = map_rows g p.tables.lines } })
    part_changed = record {
      home = h.home;
      items = h.items;
      warehouses = h.warehouses;
      districts = h.districts;
      stocks = h.stocks;
      customers = h.customers;
      histories = h.histories;
      orders_here = each_changed orders_exact (λ k _. is_of p.home k.w_id) f p.tables.orders (λ k r. refl) h.orders_here;
      new_orders_here = λ k r found. order_here k (new_has_order k r found);
      lines_here = each_changed lines_exact (λ k _. is_of p.home k.w_id) g p.tables.lines (λ k r. refl) h.lines_here;
      payers_known = h.payers_known;
      orders_numbered = each_changed orders_exact (λ k _. is_order_id k.o_id) f p.tables.orders (λ k r. refl) h.orders_numbered;
      orders_have_customers = each_changed orders_exact (λ k r. has_customer p.tables.scale (customer_of_order k r)) f p.tables.orders same_customer h.orders_have_customers;
      new_orders_have_orders = λ k r found. still k (new_has_order k r found);
      lines_have_orders = each_changed lines_exact (λ k _. table.contains_key (map_rows f p.tables.orders) (order_of_line k)) g p.tables.lines (λ k r. refl)
          (λ k r found. still (order_of_line k) (h.lines_have_orders k r found));
      lines_numbered = each_changed lines_exact (λ k _. is_line_number k.number) g p.tables.lines (λ k r. refl) h.lines_numbered;
      lines_have_items = each_changed lines_exact (λ _ r. has_item p.tables.scale r.i_id) g p.tables.lines same_item h.lines_have_items;
      lines_have_suppliers = each_changed lines_exact (λ _ r. has_warehouse p.tables.scale r.supply_w_id) g p.tables.lines same_supplier h.lines_have_suppliers;
    }

  pub part_delivered : (key : OrderKey) → IsTrue (table.contains_key p.tables.orders key) → (carrier moment : ℕ) → IsPart (record p { tables = with_delivery p.tables key carrier moment })
  part_delivered key there carrier moment =
      part_changed key there None (with_carrier key carrier) (with_moment key moment)
      (λ k r. elim (is_order key k) as (λ b. has_customer p.tables.scale (customer_of_order k (cond b (carried_by carrier r) r)) ≡ has_customer p.tables.scale (customer_of_order k r)) [ true ↦ refl | false ↦ refl ])
      (λ k r. elim (is_of_order key k) as (λ (b : Bool). has_item p.tables.scale (cond b (delivered_at moment r) r).i_id ≡ has_item p.tables.scale r.i_id) [ true ↦ refl | false ↦ refl ])
      (λ k r. elim (is_of_order key k) as (λ (b : Bool). has_warehouse p.tables.scale (cond b (delivered_at moment r) r).supply_w_id ≡ has_warehouse p.tables.scale r.supply_w_id) [ true ↦ refl | false ↦ refl ])

  pub part_undelivered : (key : OrderKey) → IsTrue (table.contains_key p.tables.orders key) → (before : BeforeDelivery) → IsPart (record p { tables = without_delivery p.tables key before })
  part_undelivered key there before =
      part_changed key there _ (with_carrier_back key before.carrier_id) (with_moments_back key before.moments)
      (λ k r. elim (is_order key k) as (λ (b : Bool). has_customer p.tables.scale (customer_of_order k (cond b (record r { carrier_id = before.carrier_id }) r)) ≡ has_customer p.tables.scale (customer_of_order k r)) [ true ↦ refl | false ↦ refl ])
      (λ k r. elim (is_of_order key k) as (λ (b : Bool). has_item p.tables.scale (cond b (record r { delivery_d = slice_index_or before.moments (k.number - 1) None }) r).i_id ≡ has_item p.tables.scale r.i_id) [ true ↦ refl | false ↦ refl ])
      (λ k r. elim (is_of_order key k) as (λ (b : Bool). has_warehouse p.tables.scale (cond b (record r { delivery_d = slice_index_or before.moments (k.number - 1) None }) r).supply_w_id ≡ has_warehouse p.tables.scale r.supply_w_id) [ true ↦ refl | false ↦ refl ])
