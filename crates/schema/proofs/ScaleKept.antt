-- A row in place of another, and a payment more, leave the tables within the scale.
use Rattle.std.proofs.Common.{◌≡◌, ℕ, Bool, true, false, cond, ◌&&◌, List, [], ◌∷◌, ◌++◌, take, zero, suc, Some, None, IsTrue, is_some, unwrap_or, refl, sym, ap, ◌∙◌}
use Rattle.std.specs.Ordering.{eq_by_cmp, is_eq}
use Rattle.std.specs.declared.cmp.Ordering.{Ordering}
use Rattle.std.specs.declared.cmp.Ordering.TheVariants.{Less, Equal, Greater}
use Rattle.std.specs.Cmp.{IsTotalOrder, nat_cmp_total}
use Rattle.std.specs.FinMap as map
use Rattle.std.specs.FinMap.{FinMap, get-insert, IsAntisymmetric, nat_cmp-IsAntisymmetric}
use Rattle.rows.specs.declared.keys.DistrictKey.{DistrictKey}
use Rattle.rows.specs.declared.keys.CustomerKey.{CustomerKey}
use Rattle.rows.specs.declared.records.Warehouse.{Warehouse}
use Rattle.rows.specs.declared.records.District.{District}
use Rattle.rows.specs.declared.records.Customer.{Customer}
use Rattle.rows.specs.declared.records.History.{History}
use Rattle.schema.specs.declared.scale.Scale.{Scale}
use Rattle.schema.specs.EachRow.{EachRow}
use Rattle.schema.specs.Scale.{has_customer}
use Rattle.schema.specs.Database.{Database, IsWithinScale, list_at, with_payment, are_payers_known}
use Rattle.schema.proofs.KeyOrders.{districts_total, districts_exact, customers_total, customers_exact}

pub known-append : (scale : Scale) (rows : List History) (row : History) → IsTrue (are_payers_known scale rows)
    → IsTrue (has_customer scale row.customer) → IsTrue (are_payers_known scale (rows ++ row ∷ []))
known-append scale [] row h known = rw known refl
known-append scale (first ∷ rows) row h known =
    elim (has_customer scale first.customer) as (λ b. IsTrue (b && are_payers_known scale rows) → IsTrue (b && are_payers_known scale (rows ++ row ∷ []))) [
      | true ↦ λ k. known-append scale rows row k known
      | false ↦ λ k. cc
    ] h

pub known-take : (scale : Scale) (n : ℕ) (rows : List History) → IsTrue (are_payers_known scale rows) → IsTrue (are_payers_known scale (take n rows))
known-take scale zero rows h = refl
known-take scale (suc n) [] h = refl
known-take scale (suc n) (first ∷ rows) h =
    elim (has_customer scale first.customer) as (λ b. IsTrue (b && are_payers_known scale rows) → IsTrue (b && are_payers_known scale (take n rows))) [
      | true ↦ λ k. known-take scale n rows k
      | false ↦ λ k. cc
    ] h

is_equal : (r : Ordering) → is_eq r ≡ true → r ≡ Equal
is_equal Less h = cc
is_equal Equal h = refl
is_equal Greater h = cc

-- a row that passes the test is put in
pub EachRow-insert : {K X : Type 0} {R : K → K → Ordering} → IsTotalOrder R → IsAntisymmetric R → (test : K → X → Bool) (m : FinMap R X) (k : K) (v : X)
    → EachRow test m → IsTrue (test k v) → EachRow test (map.insert m k v)
EachRow-insert {R = R} o a test m k v each here q row found =
    let at : cond (eq_by_cmp R q k) (Some v) (map.get m q) ≡ Some row = sym (get-insert o m k v q) ∙ found in
    elim (eq_by_cmp R q k) as (λ b. eq_by_cmp R q k ≡ b → cond b (Some v) (map.get m q) ≡ Some row → IsTrue (test q row)) [
      | true ↦ λ t f.
          let same_key : q ≡ k = a q k (is_equal _ t) in
          let same_row : v ≡ row = cc in
          rw (same_key, ← same_row) here
      | false ↦ λ t f. each q row f
    ] refl at

-- a row in place of another leaves the keys as they were
keys-insert : {K X : Type 0} {R : K → K → Ordering} → IsTotalOrder R → IsAntisymmetric R → (m : FinMap R X) (k : K) (v : X) → IsTrue (map.contains_key m k)
    → (q : K) → map.contains_key (map.insert m k v) q ≡ map.contains_key m q
keys-insert {R = R} o a m k v h q =
    ap is_some (get-insert o m k v q)
    ∙ elim (R q k) as (λ r. R q k ≡ r → is_some (cond (is_eq r) (Some v) (map.get m q)) ≡ map.contains_key m q) [
      | Less ↦ λ e. refl
      | Equal ↦ λ e. sym (ap (map.contains_key m) (a q k e) ∙ h)
      | Greater ↦ λ e. refl
    ] refl

pub scale-warehouse : (t : Database) (key : ℕ) (row : Warehouse) → IsWithinScale t → IsTrue (map.contains_key t.warehouses key)
    → IsWithinScale (record t { warehouses = map.insert t.warehouses key row })
scale-warehouse t key row h there = record {
  items = h.items;
  warehouses = λ q. keys-insert nat_cmp_total nat_cmp-IsAntisymmetric t.warehouses key row there q ∙ h.warehouses q;
  districts = h.districts;
  stocks = h.stocks;
  customers = h.customers;
  histories = h.histories;
  payers_known = h.payers_known;
  orders_numbered = h.orders_numbered;
  orders_have_customers = h.orders_have_customers;
  new_orders_have_orders = h.new_orders_have_orders;
  lines_have_orders = h.lines_have_orders;
  lines_numbered = h.lines_numbered;
  lines_have_items = h.lines_have_items;
  lines_have_suppliers = h.lines_have_suppliers;
}

pub scale-district : (t : Database) (key : DistrictKey) (row : District) → IsWithinScale t → IsTrue (map.contains_key t.districts key)
    → IsWithinScale (record t { districts = map.insert t.districts key row })
scale-district t key row h there = record {
  items = h.items;
  warehouses = h.warehouses;
  districts = λ q. keys-insert districts_total districts_exact t.districts key row there q ∙ h.districts q;
  stocks = h.stocks;
  customers = h.customers;
  histories = h.histories;
  payers_known = h.payers_known;
  orders_numbered = h.orders_numbered;
  orders_have_customers = h.orders_have_customers;
  new_orders_have_orders = h.new_orders_have_orders;
  lines_have_orders = h.lines_have_orders;
  lines_numbered = h.lines_numbered;
  lines_have_items = h.lines_have_items;
  lines_have_suppliers = h.lines_have_suppliers;
}

pub scale-customer : (t : Database) (key : CustomerKey) (row : Customer) → IsWithinScale t → IsTrue (map.contains_key t.customers key)
    → IsWithinScale (record t { customers = map.insert t.customers key row })
scale-customer t key row h there = record {
  items = h.items;
  warehouses = h.warehouses;
  districts = h.districts;
  stocks = h.stocks;
  customers = λ q. keys-insert customers_total customers_exact t.customers key row there q ∙ h.customers q;
  histories = h.histories;
  payers_known = h.payers_known;
  orders_numbered = h.orders_numbered;
  orders_have_customers = h.orders_have_customers;
  new_orders_have_orders = h.new_orders_have_orders;
  lines_have_orders = h.lines_have_orders;
  lines_numbered = h.lines_numbered;
  lines_have_items = h.lines_have_items;
  lines_have_suppliers = h.lines_have_suppliers;
}

-- every payment of a district's list names a customer
pub payers_of_list : (t : Database) (key : DistrictKey) → IsWithinScale t → IsTrue (are_payers_known t.scale (list_at t.histories key))
payers_of_list t key h =
    elim (map.get t.histories key) as (λ r. map.get t.histories key ≡ r → IsTrue (are_payers_known t.scale (unwrap_or r []))) [
      | None ↦ λ e. refl
      | Some rows ↦ λ e. h.payers_known key rows e
    ] refl

pub scale-payment : (t : Database) (key : DistrictKey) (row : History) → IsWithinScale t → IsTrue (map.contains_key t.histories key)
    → IsTrue (has_customer t.scale row.customer) → IsWithinScale (record t { histories = with_payment t.histories key row })
scale-payment t key row h there known =
    let rows = list_at t.histories key ++ row ∷ [] in
    record {
      items = h.items;
      warehouses = h.warehouses;
      districts = h.districts;
      stocks = h.stocks;
      customers = h.customers;
      histories = λ q. keys-insert districts_total districts_exact t.histories key rows there q ∙ h.histories q;
      payers_known = EachRow-insert districts_total districts_exact (λ _ list. are_payers_known t.scale list) t.histories key rows h.payers_known
          (known-append t.scale (list_at t.histories key) row (payers_of_list t key h) known);
      orders_numbered = h.orders_numbered;
      orders_have_customers = h.orders_have_customers;
      new_orders_have_orders = h.new_orders_have_orders;
      lines_have_orders = h.lines_have_orders;
      lines_numbered = h.lines_numbered;
      lines_have_items = h.lines_have_items;
      lines_have_suppliers = h.lines_have_suppliers;
    }
