-- Tables with the same rows of one warehouse have the same in its groups.
use Rattle.std.proofs.Common.{◌≡◌, ℕ, Bool, true, false, cond, None, refl, ap, sym, ◌∙◌}
use Rattle.std.specs.declared.cmp.Ordering.{Ordering}
use Rattle.std.specs.Cmp.{IsTotalOrder}
use Rattle.std.specs.FinMap as map
use Rattle.std.specs.FinMap.{FinMap, get-retain_keys, same_map, IsAntisymmetric}
use Rattle.rows.specs.declared.keys.DistrictKey.{DistrictKey}
use Rattle.rows.specs.declared.keys.StockKey.{StockKey}
use Rattle.rows.specs.declared.keys.CustomerKey.{CustomerKey}
use Rattle.rows.specs.declared.keys.OrderKey.{OrderKey}
use Rattle.rows.specs.declared.keys.OrderLineKey.{OrderLineKey}
use Rattle.schema.specs.Database.{Database}
use Rattle.schema.specs.Scale.{district_key}
use Rattle.schema.proofs.KeyOrders.{customers_total, customers_exact, orders_total, orders_exact, lines_total, lines_exact, stocks_total, stocks_exact}
use Rattle.requests.specs.declared.group.Group.{Group}
use Rattle.requests.specs.declared.group.Group.TheVariants.{Warehouse, District, Customers, Orders, History, Stock}
use Rattle.groups.specs.Content.{content, rows_of}
use Rattle.groups.specs.Content.Content.{OfWarehouse, OfDistrict, OfCustomers, OfOrders, OfHistory, OfStock}
use Rattle.groups.specs.Groups.{group_of_customer, group_of_order, group_of_line, group_of_stock, warehouse_of, is_same}
use Rattle.tickets.proofs.Apart.{is_same-equal}

-- the tables have the same rows at the keys of this warehouse
pub record AreAlikeAt (home : ℕ) (s t : Database) : Type 0 where
  pub warehouses : (key : ℕ) → key ≡ home → map.get s.warehouses key ≡ map.get t.warehouses key
  pub districts : (key : DistrictKey) → key.w_id ≡ home → map.get s.districts key ≡ map.get t.districts key
  pub stocks : (key : StockKey) → key.w_id ≡ home → map.get s.stocks key ≡ map.get t.stocks key
  pub customers : (key : CustomerKey) → key.w_id ≡ home → map.get s.customers key ≡ map.get t.customers key
  pub histories : (key : DistrictKey) → key.w_id ≡ home → map.get s.histories key ≡ map.get t.histories key
  pub orders : (key : OrderKey) → key.w_id ≡ home → map.get s.orders key ≡ map.get t.orders key
  pub new_orders : (key : OrderKey) → key.w_id ≡ home → map.get s.new_orders key ≡ map.get t.new_orders key
  pub lines : (key : OrderLineKey) → key.w_id ≡ home → map.get s.lines key ≡ map.get t.lines key

-- a group's rows of a table, where the rows of its warehouse are the same
rows_alike : {K X : Type 0} {R : K → K → Ordering} → IsTotalOrder R → IsAntisymmetric R → (own : K → Group) (group : Group) (m n : FinMap R X)
    → ((key : K) → warehouse_of (own key) ≡ warehouse_of group → map.get m key ≡ map.get n key) → rows_of own group m ≡ rows_of own group n
rows_alike {K} {X} {R} o a own group m n same = same_map o a (rows_of own group m) (rows_of own group n) (λ q. read m q ∙ each q ∙ sym (read n q))
  where
    read : (table : FinMap R X) (q : K) → map.get (rows_of own group table) q ≡ cond (is_same (own q) group) (map.get table q) None
    read table q = get-retain_keys table _ q (λ x e. ap (λ k. is_same (own k) group) (sym (a q x e)))

    each : (q : K) → cond (is_same (own q) group) (map.get m q) None ≡ cond (is_same (own q) group) (map.get n q) None
    each q = elim (is_same (own q) group) as (λ (b : Bool). is_same (own q) group ≡ b → cond b (map.get m q) None ≡ cond b (map.get n q) None) [
      | true ↦ λ e. same q (ap warehouse_of (is_same-equal (own q) group e))
      | false ↦ λ e. refl
    ] refl

pub content_alike : (home : ℕ) (s t : Database) → AreAlikeAt home s t → (group : Group) → warehouse_of group ≡ home → content s group ≡ content t group
content_alike home s t alike (Warehouse w_id) at = ap OfWarehouse (alike.warehouses w_id at)
content_alike home s t alike (District w_id d_id) at = ap OfDistrict (alike.districts (district_key w_id d_id) at)
content_alike home s t alike (Customers w_id d_id) at =
    ap OfCustomers (rows_alike customers_total customers_exact group_of_customer (Customers w_id d_id) s.customers t.customers (λ key own. alike.customers key (own ∙ at)))
content_alike home s t alike (Orders w_id d_id) at =
    let group : Group = Orders w_id d_id in
    let orders = rows_alike orders_total orders_exact group_of_order group s.orders t.orders (λ key own. alike.orders key (own ∙ at)) in
    let new_orders = rows_alike orders_total orders_exact group_of_order group s.new_orders t.new_orders (λ key own. alike.new_orders key (own ∙ at)) in
    let lines = rows_alike lines_total lines_exact group_of_line group s.lines t.lines (λ key own. alike.lines key (own ∙ at)) in
    λ i. OfOrders (orders i) (new_orders i) (lines i)
content_alike home s t alike (History w_id d_id) at = ap OfHistory (alike.histories (district_key w_id d_id) at)
content_alike home s t alike (Stock w_id residue) at =
    ap OfStock (rows_alike stocks_total stocks_exact group_of_stock (Stock w_id residue) s.stocks t.stocks (λ key own. alike.stocks key (own ∙ at)))
