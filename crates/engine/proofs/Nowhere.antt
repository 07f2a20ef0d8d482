-- A row of tables is of a group that there is, so that two tables of one scale have the same in any other.
use Rattle.std.proofs.Common.{◌≡◌, ℕ, ◌<◌, ◌%◌, Bool, true, false, cond, Option, Some, None, refl, sym, ap, subst, ◌∙◌, arith}
use Rattle.std.specs.Prelude.{is_some}
use Rattle.std.specs.declared.cmp.Ordering.{Ordering}
use Rattle.std.specs.Cmp.{IsTotalOrder}
use Rattle.std.specs.FinMap as map
use Rattle.std.specs.FinMap.{FinMap, get-retain_keys, same_map, IsAntisymmetric}
use Rattle.std.proofs.lemmas.Bool.{and_parts}
use Rattle.rows.specs.declared.keys.DistrictKey.{DistrictKey}
use Rattle.rows.specs.declared.keys.StockKey.{StockKey}
use Rattle.rows.specs.declared.keys.CustomerKey.{CustomerKey}
use Rattle.rows.specs.declared.keys.OrderKey.{OrderKey}
use Rattle.rows.specs.declared.keys.OrderLineKey.{OrderLineKey}
use Rattle.rows.specs.declared.records.Order.{Order}
use Rattle.rows.specs.Keys.{order_of_line}
use Rattle.rows.specs.Ranged.{is_between}
use Rattle.rows.specs.declared.limits.TheConstants.{STOCK_GROUPS}
use Rattle.schema.specs.declared.scale.Scale.{Scale}
use Rattle.schema.specs.Database.{Database, IsWithinScale, customer_of_order}
use Rattle.schema.specs.Scale.{district_key, has_customer, has_district, has_item, has_stock, has_warehouse}
use Rattle.schema.proofs.KeyOrders.{customers_total, customers_exact, orders_total, orders_exact, lines_total, lines_exact, stocks_total, stocks_exact}
use Rattle.requests.specs.declared.group.Group.{Group}
use Rattle.requests.specs.declared.group.Group.TheVariants.{Warehouse, District, Customers, Orders, History, Stock}
use Rattle.groups.specs.Content.{content, rows_of}
use Rattle.groups.specs.Content.Content.{OfWarehouse, OfDistrict, OfCustomers, OfOrders, OfHistory, OfStock}
use Rattle.groups.specs.Groups.{group_of_customer, group_of_order, group_of_line, group_of_stock, is_same}
use Rattle.tickets.specs.Places.{IsGroupOf}
use Rattle.tickets.proofs.Apart.{is_same-equal}
use Rattle.transactions.proofs.InScale.{between}

-- ---- a row that is there

module _ (t : Database) (within : IsWithinScale t) where
  there : {K X : Type 0} {R : K → K → Ordering} (table : FinMap R X) (key : K) (row : X) (has : Bool) → map.contains_key table key ≡ has → map.get table key ≡ Some row → has ≡ true
  there table key row has is found = sym is ∙ ap is_some found

  warehouse_known : (w_id : ℕ) → has_warehouse t.scale w_id ≡ true → IsGroupOf t.scale.warehouses (Warehouse w_id)
  warehouse_known w_id has = between 1 t.scale.warehouses w_id has

  district_known : (key : DistrictKey) → has_district t.scale key ≡ true → IsGroupOf t.scale.warehouses (District key.w_id key.d_id)
  district_known key has =
      let parts = and_parts (has_warehouse t.scale key.w_id) (is_between 1 10 key.d_id) has in
      (between 1 t.scale.warehouses key.w_id parts.0, between 1 10 key.d_id parts.1)

  customer_known : (key : CustomerKey) → has_customer t.scale key ≡ true → IsGroupOf t.scale.warehouses (District key.w_id key.d_id)
  customer_known key has = district_known (district_key key.w_id key.d_id) (and_parts (has_district t.scale (district_key key.w_id key.d_id)) (is_between 1 t.scale.customers key.c_id) has).0

  of_customer : (key : CustomerKey) (row : _) → map.get t.customers key ≡ Some row → IsGroupOf t.scale.warehouses (group_of_customer key)
  of_customer key row found = customer_known key (there t.customers key row (has_customer t.scale key) (within.customers key) found)

  of_order : (key : OrderKey) (row : Order) → map.get t.orders key ≡ Some row → IsGroupOf t.scale.warehouses (group_of_order key)
  of_order key row found = customer_known (customer_of_order key row) (within.orders_have_customers key row found)

  known_order : (key : OrderKey) → map.contains_key t.orders key ≡ true → IsGroupOf t.scale.warehouses (group_of_order key)
  known_order key has =
      elim (map.get t.orders key) as (λ (o : Option Order). map.get t.orders key ≡ o → is_some o ≡ true → IsGroupOf t.scale.warehouses (group_of_order key)) [
        | Some row ↦ λ found is. of_order key row found
        | None ↦ λ found is. absurd cc
      ] refl has

  of_new_order : (key : OrderKey) (row : _) → map.get t.new_orders key ≡ Some row → IsGroupOf t.scale.warehouses (group_of_order key)
  of_new_order key row found = known_order key (within.new_orders_have_orders key row found)

  of_line : (key : OrderLineKey) (row : _) → map.get t.lines key ≡ Some row → IsGroupOf t.scale.warehouses (group_of_line key)
  of_line key row found = known_order (order_of_line key) (within.lines_have_orders key row found)

  of_stock : (key : StockKey) (row : _) → map.get t.stocks key ≡ Some row → IsGroupOf t.scale.warehouses (group_of_stock key)
  of_stock key row found =
      let has = there t.stocks key row (has_stock t.scale key) (within.stocks key) found in
      let parts = and_parts (has_warehouse t.scale key.w_id) (has_item t.scale key.i_id) has in
      let below : key.i_id % STOCK_GROUPS < STOCK_GROUPS = omega arith in
      (between 1 t.scale.warehouses key.w_id parts.0, below)

  -- ---- a group that there isn't

  module _ (group : Group) (nowhere : IsGroupOf t.scale.warehouses group → ⊥) where
    none_there : {K X : Type 0} {R : K → K → Ordering} (table : FinMap R X) (own : K → Group) → ((key : K) (row : X) → map.get table key ≡ Some row → IsGroupOf t.scale.warehouses (own key))
        → (key : K) → own key ≡ group → map.get table key ≡ None
    none_there {K} {X} table own known key is =
        elim (map.get table key) as (λ (o : Option X). map.get table key ≡ o → o ≡ None) [
          | Some row ↦ λ found. absurd (nowhere (subst (IsGroupOf t.scale.warehouses) is (known key row found)))
          | None ↦ λ found. refl
        ] refl

-- ---- two tables of one scale

-- a group's rows of a table, where the rows of the group are the same
rows_same : {K X : Type 0} {R : K → K → Ordering} → IsTotalOrder R → IsAntisymmetric R → (own : K → Group) (group : Group) (m n : FinMap R X)
    → ((key : K) → own key ≡ group → map.get m key ≡ map.get n key) → rows_of own group m ≡ rows_of own group n
rows_same {K} {X} {R} o a own group m n same = same_map o a (rows_of own group m) (rows_of own group n) (λ q. read m q ∙ each q ∙ sym (read n q))
  where
    read : (table : FinMap R X) (q : K) → map.get (rows_of own group table) q ≡ cond (is_same (own q) group) (map.get table q) None
    read table q = get-retain_keys table _ q (λ x e. ap (λ k. is_same (own k) group) (sym (a q x e)))

    each : (q : K) → cond (is_same (own q) group) (map.get m q) None ≡ cond (is_same (own q) group) (map.get n q) None
    each q = elim (is_same (own q) group) as (λ (b : Bool). is_same (own q) group ≡ b → cond b (map.get m q) None ≡ cond b (map.get n q) None) [
      | true ↦ λ e. same q (is_same-equal (own q) group e)
      | false ↦ λ e. refl
    ] refl

absent : {K X : Type 0} {R : K → K → Ordering} (table : FinMap R X) (key : K) → map.contains_key table key ≡ false → map.get table key ≡ None
absent {X = X} table key is =
    elim (map.get table key) as (λ (o : Option X). is_some o ≡ false → o ≡ None) [
      | Some row ↦ λ e. absurd cc
      | None ↦ λ e. refl
    ] is

not_there : (b : Bool) → (b ≡ true → ⊥) → b ≡ false
not_there true differs = absurd (differs refl)
not_there false differs = refl

-- both have nothing in a group that there isn't
pub nothing_nowhere : (s t : Database) → IsWithinScale s → IsWithinScale t → s.scale ≡ t.scale → (group : Group) → (IsGroupOf t.scale.warehouses group → ⊥) → content s group ≡ content t group
nothing_nowhere s t ws wt scale group no_group = by group no_group (λ g. no_group (subst (λ (c : Scale). IsGroupOf c.warehouses group) scale g))
  where
    by : (g : Group) → (IsGroupOf t.scale.warehouses g → ⊥) → (IsGroupOf s.scale.warehouses g → ⊥) → content s g ≡ content t g
    by (Warehouse w_id) never_t never_s =
        ap OfWarehouse (absent s.warehouses w_id (ws.warehouses w_id ∙ not_there (has_warehouse s.scale w_id) (λ e. never_s (warehouse_known s ws w_id e)))
        ∙ sym (absent t.warehouses w_id (wt.warehouses w_id ∙ not_there (has_warehouse t.scale w_id) (λ e. never_t (warehouse_known t wt w_id e)))))
    by (District w_id d_id) never_t never_s =
        let key = district_key w_id d_id in
        ap OfDistrict (absent s.districts key (ws.districts key ∙ not_there (has_district s.scale key) (λ e. never_s (district_known s ws key e)))
        ∙ sym (absent t.districts key (wt.districts key ∙ not_there (has_district t.scale key) (λ e. never_t (district_known t wt key e)))))
    by (History w_id d_id) never_t never_s =
        let key = district_key w_id d_id in
        ap OfHistory (absent s.histories key (ws.histories key ∙ not_there (has_district s.scale key) (λ e. never_s (district_known s ws key e)))
        ∙ sym (absent t.histories key (wt.histories key ∙ not_there (has_district t.scale key) (λ e. never_t (district_known t wt key e)))))
    by (Customers w_id d_id) never_t never_s =
        let g : Group = Customers w_id d_id in
        ap OfCustomers (rows_same customers_total customers_exact group_of_customer g s.customers t.customers (λ key own.
        none_there s ws g never_s s.customers group_of_customer (of_customer s ws) key own ∙ sym (none_there t wt g never_t t.customers group_of_customer (of_customer t wt) key own)))
    by (Orders w_id d_id) never_t never_s =
        let g : Group = Orders w_id d_id in
        let orders = rows_same orders_total orders_exact group_of_order g s.orders t.orders (λ key own.
        none_there s ws g never_s s.orders group_of_order (of_order s ws) key own ∙ sym (none_there t wt g never_t t.orders group_of_order (of_order t wt) key own)) in
        let new_orders = rows_same orders_total orders_exact group_of_order g s.new_orders t.new_orders (λ key own.
        none_there s ws g never_s s.new_orders group_of_order (of_new_order s ws) key own ∙ sym (none_there t wt g never_t t.new_orders group_of_order (of_new_order t wt) key own)) in
        let lines = rows_same lines_total lines_exact group_of_line g s.lines t.lines (λ key own.
        none_there s ws g never_s s.lines group_of_line (of_line s ws) key own ∙ sym (none_there t wt g never_t t.lines group_of_line (of_line t wt) key own)) in
        λ i. OfOrders (orders i) (new_orders i) (lines i)
    by (Stock w_id residue) never_t never_s =
        let g : Group = Stock w_id residue in
        ap OfStock (rows_same stocks_total stocks_exact group_of_stock g s.stocks t.stocks (λ key own.
        none_there s ws g never_s s.stocks group_of_stock (of_stock s ws) key own ∙ sym (none_there t wt g never_t t.stocks group_of_stock (of_stock t wt) key own)))
