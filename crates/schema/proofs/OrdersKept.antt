-- An order that is added, taken back or delivered leaves the tables within the scale.
use Rattle.std.proofs.Common.{◌≡◌, ℕ, ◌+◌, ◌<◌, ◌≤◌, Bool, true, false, cond, ◌&&◌, List, [], ◌∷◌, length, map, Option, Some, None, Result, Ok, Err, OnOk, OnErr, IfOk, IsTrue, is_some, refl, sym, ap, subst, ◌∙◌, arith}
use Rattle.std.specs.List.{list_all}
use Rattle.std.specs.Option.{option_map}
use Rattle.std.specs.BTreeMap.{BTreeMap}
use Rattle.std.specs.declared.cmp.Ordering.{Ordering}
use Rattle.std.specs.Ordering.{eq_by_cmp}
use Rattle.std.specs.Cmp.{IsTotalOrder}
use Rattle.std.specs.FinMap as table
use Rattle.std.specs.FinMap.{FinMap, get, get-remove, IsAntisymmetric}
use Rattle.std.proofs.lemmas.Bool.Decides.{nat_tests}
use Rattle.rows.specs.declared.keys.OrderKey.{OrderKey}
use Rattle.rows.specs.declared.keys.OrderLineKey.{OrderLineKey}
use Rattle.rows.specs.declared.records.Order.{Order}
use Rattle.rows.specs.declared.records.NewOrder.{NewOrder}
use Rattle.rows.specs.declared.records.OrderLine.{OrderLine}
use Rattle.rows.specs.Keys.{order_cmp, order_of_line}
use Rattle.rows.specs.declared.limits.TheConstants.{MOST_LINES}
use Rattle.schema.specs.declared.scale.Scale.{Scale}
use Rattle.schema.specs.declared.table_rows.TableRows.{TableRows}
use Rattle.schema.specs.EachRow.{EachRow}
use Rattle.schema.specs.Scale.{has_item, has_warehouse, has_customer}
use Rattle.schema.specs.MapRows.{table_of, map_rows}
use Rattle.schema.specs.Database.{Database, IsWithinScale, customer_of_order, is_order_id, is_line_number, is_of_order}
use Rattle.schema.specs.OrderRows.{LineTable, line_key, line_table, put_lines, with_order, with_delivery, carried_by, delivered_at, with_carrier, with_moment, is_order, is_line_within}
use Rattle.schema.specs.Rows.{FitsScale, database}
use Rattle.schema.proofs.KeyOrders.{orders_total, orders_exact, lines_total, lines_exact}
use Rattle.schema.proofs.ScaleKept.{EachRow-insert}
use Rattle.schema.proofs.TableWrites.{get-map_rows, now_there, still_there}

-- the rows of the other six tables stay
pub orders_fit : (scale : Scale) (rows : TableRows) (orders : BTreeMap OrderKey Order) (new_orders : BTreeMap OrderKey NewOrder) (lines : List (OrderLineKey × OrderLine))
    → FitsScale scale rows → IsWithinScale (database scale (record rows { orders = orders; new_orders = new_orders; lines = lines }))
    → FitsScale scale (record rows { orders = orders; new_orders = new_orders; lines = lines })
orders_fit scale rows orders new_orders lines h within = record {
  counts = record {
    items = h.counts.items;
    warehouses = h.counts.warehouses;
    districts = h.counts.districts;
    stocks = h.counts.stocks;
    customers = h.counts.customers;
    histories = h.counts.histories;
  };
  within = within;
}

-- ---- what holds of each row

-- a test that follows from another
EachRow-weaker : {K X : Type 0} {R : K → K → Ordering} (p q : K → X → Bool) (m : FinMap R X) → ((k : K) (x : X) → IsTrue (p k x) → IsTrue (q k x)) → EachRow p m → EachRow q m
EachRow-weaker p q m weaker each k x found = weaker k x (each k x found)

-- a test of the key alone
keys_pass : (test : OrderLineKey → Bool) (order : OrderKey) (number : ℕ) (rows : List OrderLine) (lines : LineTable) → EachRow (λ key _. test key) lines
    → ((n : ℕ) → number ≤ n → n < number + length rows → IsTrue (test (line_key order n)))
    → EachRow (λ key _. test key) (put_lines order number (map (λ r. Some r) rows) lines)
keys_pass test order number [] lines each h = each
keys_pass test order number (row ∷ rows) lines each h =
    EachRow-insert lines_total lines_exact (λ key _. test key) (put_lines order (number + 1) (map (λ r. Some r) rows) lines) (line_key order number) row
    (keys_pass test order (number + 1) rows lines each (λ n low high. h n (omega arith) (omega arith)))
    (h number (omega arith) (omega arith))

first : (b c : Bool) → IsTrue (b && c) → IsTrue b
first true c h = refl
first false c h = h

second : (b c : Bool) → IsTrue (b && c) → IsTrue c
second true c h = h
second false c h = absurd cc

-- a test of the row alone
rows_pass : (test : OrderLine → Bool) (order : OrderKey) (number : ℕ) (rows : List OrderLine) (lines : LineTable) → EachRow (λ _ row. test row) lines → IsTrue (list_all test rows)
    → EachRow (λ _ row. test row) (put_lines order number (map (λ r. Some r) rows) lines)
rows_pass test order number [] lines each h = each
rows_pass test order number (row ∷ rows) lines each h =
    EachRow-insert lines_total lines_exact (λ _ r. test r) (put_lines order (number + 1) (map (λ r. Some r) rows) lines) (line_key order number) row
    (rows_pass test order (number + 1) rows lines each (second _ _ h))
    (first _ _ h)

list_all-first : (scale : Scale) (rows : List OrderLine) → IsTrue (list_all (is_line_within scale) rows) → IsTrue (list_all (λ row. has_item scale row.i_id) rows)
list_all-first scale [] h = refl
list_all-first scale (row ∷ rows) h =
    let here : IsTrue (has_item scale row.i_id) = first _ _ (first _ _ h) in
    rw here (list_all-first scale rows (second _ _ h))

list_all-second : (scale : Scale) (rows : List OrderLine) → IsTrue (list_all (is_line_within scale) rows) → IsTrue (list_all (λ row. has_warehouse scale row.supply_w_id) rows)
list_all-second scale [] h = refl
list_all-second scale (row ∷ rows) h =
    let here : IsTrue (has_warehouse scale row.supply_w_id) = second _ _ (first _ _ h) in
    rw here (list_all-second scale rows (second _ _ h))

numbered : (n count : ℕ) → count ≤ MOST_LINES → 1 ≤ n → n < 1 + count → IsTrue (is_line_number n)
numbered n count few low high = grind (arith, nat_tests)

-- ---- an order more

pub within_added : (t : Database) (key : OrderKey) (order : Order) (lines : List OrderLine) → IsWithinScale t → IsTrue (is_order_id key.o_id) → IsTrue (has_customer t.scale (customer_of_order key order))
    → length lines ≤ MOST_LINES → IsTrue (list_all (is_line_within t.scale) lines) → IsWithinScale (with_order t key order lines)
within_added t key order lines h number customer few known = record {
  items = h.items;
  warehouses = h.warehouses;
  districts = h.districts;
  stocks = h.stocks;
  customers = h.customers;
  histories = h.histories;
  payers_known = h.payers_known;
  orders_numbered = EachRow-insert orders_total orders_exact (λ k _. is_order_id k.o_id) t.orders key order h.orders_numbered number;
  orders_have_customers = EachRow-insert orders_total orders_exact (λ k row. has_customer t.scale (customer_of_order k row)) t.orders key order h.orders_have_customers customer;
  new_orders_have_orders = EachRow-insert orders_total orders_exact (λ k _. table.contains_key (table.insert t.orders key order) k) t.new_orders key (record {})
      (EachRow-weaker (λ k _. table.contains_key t.orders k) (λ k _. table.contains_key (table.insert t.orders key order) k) t.new_orders (λ k _ there. still_there orders_total orders_exact t.orders key order k there) h.new_orders_have_orders)
      (now_there orders_total orders_exact t.orders key order);
  lines_have_orders = keys_pass (λ k. table.contains_key (table.insert t.orders key order) (order_of_line k)) key 1 lines t.lines
      (EachRow-weaker (λ k _. table.contains_key t.orders (order_of_line k)) (λ k _. table.contains_key (table.insert t.orders key order) (order_of_line k)) t.lines (λ k _ there. still_there orders_total orders_exact t.orders key order (order_of_line k) there) h.lines_have_orders)
      (λ n low high. now_there orders_total orders_exact t.orders key order);
  lines_numbered = keys_pass (λ k. is_line_number k.number) key 1 lines t.lines h.lines_numbered (λ n low high. numbered n (length lines) few low high);
  lines_have_items = rows_pass (λ row. has_item t.scale row.i_id) key 1 lines t.lines h.lines_have_items (list_all-first t.scale lines known);
  lines_have_suppliers = rows_pass (λ row. has_warehouse t.scale row.supply_w_id) key 1 lines t.lines h.lines_have_suppliers (list_all-second t.scale lines known);
}

-- ---- an order that is delivered

-- rows that are changed pass the test that they passed
EachRow-map_rows : {K X : Type 0} {R : K → K → Ordering} → IsAntisymmetric R → (test : K → X → Bool) (f : K → X → X) (m : FinMap R X)
    → ((k : K) (x : X) → test k (f k x) ≡ test k x) → EachRow test m → EachRow test (map_rows f m)
EachRow-map_rows {K} {X} {R} a test f m same each k x found =
    from (get m k) refl (sym (get-map_rows R f a m k) ∙ found)
  where
    from : (r : Option X) → get m k ≡ r → option_map (f k) r ≡ Some x → IsTrue (test k x)
    from None e h = absurd cc
    from (Some y) e h =
        let is : f k y ≡ x = cc in
        subst (λ z. IsTrue (test k z)) is (same k y ∙ each k y e)

-- and are where they were
pub contains-map_rows : {K X : Type 0} {R : K → K → Ordering} → IsAntisymmetric R → (f : K → X → X) (m : FinMap R X) (k : K) → table.contains_key (map_rows f m) k ≡ table.contains_key m k
contains-map_rows {K} {X} {R} a f m k = ap is_some (get-map_rows R f a m k) ∙ elim (get m k) as (λ r. is_some (option_map (f k) r) ≡ is_some r) [ None ↦ refl | Some x ↦ refl ]

-- a row that is left passes the test
EachRow-remove : {K X : Type 0} {R : K → K → Ordering} → IsTotalOrder R → (test : K → X → Bool) (m : FinMap R X) (q : K) → EachRow test m → EachRow test (table.remove m q)
EachRow-remove {X = X} {R = R} o test m q each k x found =
    from (eq_by_cmp R k q) (sym (get-remove o m q k) ∙ found)
  where
    from : (b : Bool) → cond b None (get m k) ≡ Some x → IsTrue (test k x)
    from true h = absurd cc
    from false h = each k x h

carrier_customer : (scale : Scale) (order : OrderKey) (carrier : ℕ) (k : OrderKey) (row : Order) → has_customer scale (customer_of_order k (with_carrier order carrier k row)) ≡ has_customer scale (customer_of_order k row)
carrier_customer scale order carrier k row =
    elim (is_order order k) as (λ b. has_customer scale (customer_of_order k (cond b (carried_by carrier row) row)) ≡ has_customer scale (customer_of_order k row)) [ true ↦ refl | false ↦ refl ]

moment_item : (scale : Scale) (order : OrderKey) (moment : ℕ) (k : OrderLineKey) (row : OrderLine) → has_item scale (with_moment order moment k row).i_id ≡ has_item scale row.i_id
moment_item scale order moment k row =
    elim (is_of_order order k) as (λ (b : Bool). has_item scale (cond b (delivered_at moment row) row).i_id ≡ has_item scale row.i_id) [ true ↦ refl | false ↦ refl ]

moment_supplier : (scale : Scale) (order : OrderKey) (moment : ℕ) (k : OrderLineKey) (row : OrderLine) → has_warehouse scale (with_moment order moment k row).supply_w_id ≡ has_warehouse scale row.supply_w_id
moment_supplier scale order moment k row =
    elim (is_of_order order k) as (λ (b : Bool). has_warehouse scale (cond b (delivered_at moment row) row).supply_w_id ≡ has_warehouse scale row.supply_w_id) [ true ↦ refl | false ↦ refl ]

pub within_delivered : (t : Database) (order : OrderKey) (carrier moment : ℕ) → IsWithinScale t → IsWithinScale (with_delivery t order carrier moment)
within_delivered t order carrier moment h =
    let there = λ (k : OrderKey). contains-map_rows orders_exact (with_carrier order carrier) t.orders k in
    record {
      items = h.items;
      warehouses = h.warehouses;
      districts = h.districts;
      stocks = h.stocks;
      customers = h.customers;
      histories = h.histories;
      payers_known = h.payers_known;
      orders_numbered = EachRow-map_rows orders_exact (λ k _. is_order_id k.o_id) (with_carrier order carrier) t.orders (λ k row. refl) h.orders_numbered;
      orders_have_customers = EachRow-map_rows orders_exact (λ k row. has_customer t.scale (customer_of_order k row)) (with_carrier order carrier) t.orders (carrier_customer t.scale order carrier) h.orders_have_customers;
      new_orders_have_orders = EachRow-weaker (λ k _. table.contains_key t.orders k) (λ k _. table.contains_key (map_rows (with_carrier order carrier) t.orders) k) (table.remove t.new_orders order)
          (λ k _ is. there k ∙ is) (EachRow-remove orders_total (λ k _. table.contains_key t.orders k) t.new_orders order h.new_orders_have_orders);
      lines_have_orders = EachRow-weaker (λ k _. table.contains_key t.orders (order_of_line k)) (λ k _. table.contains_key (map_rows (with_carrier order carrier) t.orders) (order_of_line k)) (map_rows (with_moment order moment) t.lines)
          (λ k _ is. there (order_of_line k) ∙ is) (EachRow-map_rows lines_exact (λ k _. table.contains_key t.orders (order_of_line k)) (with_moment order moment) t.lines (λ k row. refl) h.lines_have_orders);
      lines_numbered = EachRow-map_rows lines_exact (λ k _. is_line_number k.number) (with_moment order moment) t.lines (λ k row. refl) h.lines_numbered;
      lines_have_items = EachRow-map_rows lines_exact (λ _ row. has_item t.scale row.i_id) (with_moment order moment) t.lines (moment_item t.scale order moment) h.lines_have_items;
      lines_have_suppliers = EachRow-map_rows lines_exact (λ _ row. has_warehouse t.scale row.supply_w_id) (with_moment order moment) t.lines (moment_supplier t.scale order moment) h.lines_have_suppliers;
    }

-- ---- the outcome of a call

pub on_ok_three : {T E P Q S G : Type 0} (r : Result T E) → OnOk r P → OnOk r Q → OnOk r S → (P → Q → S → G) → OnOk r G
on_ok_three (Ok x) p q s f = f p q s
on_ok_three (Err e) p q s f = tt

pub on_err_three : {T E P Q S G : Type 0} (r : Result T E) → OnErr r P → OnErr r Q → OnErr r S → (P → Q → S → G) → OnErr r G
on_err_three (Ok x) p q s f = tt
on_err_three (Err e) p q s f = f p q s

pub if_ok_three : {T E : Type 0} {P Q S G : T → Type 0} (r : Result T E) → IfOk r P → IfOk r Q → IfOk r S → ((x : T) → P x → Q x → S x → G x) → IfOk r G
if_ok_three (Ok x) p q s f = f x p q s
if_ok_three (Err e) p q s f = tt

pub by_three : {T E P Q S P' Q' S' G : Type 0} (r : Result T E) → OnOk r P → OnOk r Q → OnOk r S → OnErr r P' → OnErr r Q' → OnErr r S' → (P → Q → S → G) → (P' → Q' → S' → G) → G
by_three (Ok x) p q s p' q' s' f g = f p q s
by_three (Err e) p q s p' q' s' f g = g p' q' s'

-- the tables of rows whose orders are others
pub other_orders : (scale : Scale) (rows : TableRows) (orders : BTreeMap OrderKey Order) (new_orders : BTreeMap OrderKey NewOrder) (lines : List (OrderLineKey × OrderLine))
    (x : FinMap order_cmp Order) (y : FinMap order_cmp NewOrder) (z : LineTable) → table_of order_cmp orders ≡ x → table_of order_cmp new_orders ≡ y → line_table lines ≡ z
    → database scale (record rows { orders = orders; new_orders = new_orders; lines = lines }) ≡ record (database scale rows) { orders = x; new_orders = y; lines = z }
other_orders scale rows orders new_orders lines x y z a b d = λ i. record (database scale rows) { orders = a i; new_orders = b i; lines = d i }
