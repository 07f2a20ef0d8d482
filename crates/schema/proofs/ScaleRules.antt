-- Tests of rows, against the rules of the scale on the tables that they make.
use Rattle.std.proofs.Common.{◌≡◌, ◌↔◌, ℕ, Bool, true, false, cond, ◌&&◌, List, [], ◌∷◌, Some, None, IsTrue, is_some, refl, sym, ap, subst, ◌∙◌}
use Rattle.std.specs.List.{list_all}
use Rattle.std.specs.BTreeMap.{IsOrdered}
use Rattle.std.specs.List.Sorted.{IsStrictlySortedBy}
use Rattle.std.specs.Map.{keys_of}
use Rattle.std.specs.BTreeMap as tree
use Rattle.std.specs.Cmp.{nat_cmp_total}
use Rattle.std.specs.FinMap as map
use Rattle.std.specs.FinMap.{nat_cmp-IsAntisymmetric}
use Rattle.rows.specs.declared.keys.OrderKey.{OrderKey}
use Rattle.rows.specs.declared.keys.OrderLineKey.{OrderLineKey}
use Rattle.rows.specs.declared.records.Order.{Order}
use Rattle.rows.specs.declared.records.OrderLine.{OrderLine}
use Rattle.rows.specs.Keys.{order_cmp, line_cmp, order_of_line}
use Rattle.schema.specs.declared.scale.Scale.{Scale}
use Rattle.schema.specs.declared.table_rows.TableRows.{TableRows}
use Rattle.schema.specs.EachRow.{EachRow}
use Rattle.schema.specs.Scale.{has_item, has_warehouse, has_district, has_stock, has_customer, item_ids, warehouse_ids, district_keys, stock_keys, customer_keys}
use Rattle.schema.specs.Database.{are_payers_known, PayersKnown, NewOrdersHaveOrders, LinesHaveOrders}
use Rattle.schema.specs.Rows.{HasCounts, database}
use Rattle.schema.proofs.Places.{contains-dense}
use Rattle.schema.proofs.EachRows.{EachRow-entries, EachRow-dense}
use Rattle.schema.proofs.KeyOrders.{districts_total, districts_exact, stocks_total, stocks_exact, customers_total, customers_exact, orders_total, orders_exact, lines_total, lines_exact}
use Rattle.schema.proofs.ScalePlaces.{item_place, warehouse_place, district_place, stock_place, customer_place, length-item_ids, length-warehouse_ids, length-district_keys, length-stock_keys, length-customer_keys, district_at, place-district_at}
use Rattle.schema.proofs.RowReads.{read_entry}

-- a test that fails shows that the rule doesn't hold
pub fails : {P : Type 0} (r : Bool) → r ≡ false → IsTrue r ↔ P → ¬ P
fails r is records = λ p. let clash : IsTrue r = records.1 p in cc

-- ---- the tests

as_test : {P : Type 0} (r test : Bool) → r ≡ test → IsTrue test ↔ P → IsTrue r ↔ P
as_test {P = P} r test is records = subst (λ b. IsTrue b ↔ P) (sym is) records

same_tests : {X : Type 0} (p q : X → Bool) (xs : List X) → ((x : X) → p x ≡ q x) → list_all p xs ≡ list_all q xs
same_tests p q [] h = refl
same_tests p q (x ∷ xs) h = ap (λ b. b && list_all p xs) (h x) ∙ ap (λ b. q x && b) (same_tests p q xs h)

module _ (scale : Scale) (rows : TableRows) where
  pub payers_rule : (r : Bool) → HasCounts scale rows → r ≡ list_all (are_payers_known scale) rows.histories.items → IsTrue r ↔ PayersKnown (database scale rows)
  payers_rule r counts is = as_test r _ is
      (EachRow-dense districts_total districts_exact (are_payers_known scale) (district_keys scale) rows.histories.items
      (counts.histories ∙ sym (length-district_keys scale)) district_at (place-district_at scale))

  pub order_rule : (test : OrderKey → Order → Bool) (r : Bool) → IsOrdered order_cmp rows.orders → r ≡ list_all (λ e. test e.0 e.1) rows.orders.entries
      → IsTrue r ↔ EachRow test (database scale rows).orders
  order_rule test r ordered is = as_test r _ is (EachRow-entries orders_total orders_exact test rows.orders.entries ordered)

  pub line_rule : (test : OrderLineKey → OrderLine → Bool) (r : Bool) → IsStrictlySortedBy line_cmp (keys_of rows.lines) → r ≡ list_all (λ e. test e.0 e.1) rows.lines
      → IsTrue r ↔ EachRow test (database scale rows).lines
  line_rule test r ordered is = as_test r _ is (EachRow-entries lines_total lines_exact test rows.lines ordered)

  found_order : (key : OrderKey) → is_some (tree.get order_cmp rows.orders key) ≡ map.contains_key (database scale rows).orders key
  found_order key = ap is_some (sym (read_entry orders_total rows.orders.entries key))

  pub new_order_rule : (r : Bool) → IsOrdered order_cmp rows.new_orders → r ≡ list_all (λ e. is_some (tree.get order_cmp rows.orders e.0)) rows.new_orders.entries
      → IsTrue r ↔ NewOrdersHaveOrders (database scale rows)
  new_order_rule r ordered is = as_test r _ (is ∙ same_tests _ _ rows.new_orders.entries (λ e. found_order e.0))
      (EachRow-entries orders_total orders_exact (λ key _. map.contains_key (database scale rows).orders key) rows.new_orders.entries ordered)

  pub line_order_rule : (r : Bool) → IsStrictlySortedBy line_cmp (keys_of rows.lines) → r ≡ list_all (λ e. is_some (tree.get order_cmp rows.orders (order_of_line e.0))) rows.lines
      → IsTrue r ↔ LinesHaveOrders (database scale rows)
  line_order_rule r ordered is = as_test r _ (is ∙ same_tests _ _ rows.lines (λ e. found_order (order_of_line e.0)))
      (EachRow-entries lines_total lines_exact (λ key _. map.contains_key (database scale rows).orders (order_of_line key)) rows.lines ordered)

-- ---- the keys of the six tables

pub some_if : {X : Type 0} (b : Bool) (x : X) → is_some (cond b (Some x) None) ≡ b
some_if true x = refl
some_if false x = refl

module _ (scale : Scale) (rows : TableRows) (counts : HasCounts scale rows) where
  pub item_keys : (key : ℕ) → map.contains_key (database scale rows).items key ≡ has_item scale key
  item_keys key = contains-dense nat_cmp_total nat_cmp-IsAntisymmetric (item_ids scale) rows.items.items (counts.items ∙ sym (length-item_ids scale)) key
      ∙ ap is_some (item_place scale key) ∙ some_if (has_item scale key) _

  pub warehouse_keys : (key : ℕ) → map.contains_key (database scale rows).warehouses key ≡ has_warehouse scale key
  warehouse_keys key = contains-dense nat_cmp_total nat_cmp-IsAntisymmetric (warehouse_ids scale) rows.warehouses.items (counts.warehouses ∙ sym (length-warehouse_ids scale)) key
      ∙ ap is_some (warehouse_place scale key) ∙ some_if (has_warehouse scale key) _

  pub district_keys_are : (key : _) → map.contains_key (database scale rows).districts key ≡ has_district scale key
  district_keys_are key = contains-dense districts_total districts_exact (district_keys scale) rows.districts.items (counts.districts ∙ sym (length-district_keys scale)) key
      ∙ ap is_some (district_place scale key) ∙ some_if (has_district scale key) _

  pub stock_keys_are : (key : _) → map.contains_key (database scale rows).stocks key ≡ has_stock scale key
  stock_keys_are key = contains-dense stocks_total stocks_exact (stock_keys scale) rows.stocks.items (counts.stocks ∙ sym (length-stock_keys scale)) key
      ∙ ap is_some (stock_place scale key) ∙ some_if (has_stock scale key) _

  pub customer_keys_are : (key : _) → map.contains_key (database scale rows).customers key ≡ has_customer scale key
  customer_keys_are key = contains-dense customers_total customers_exact (customer_keys scale) rows.customers.items (counts.customers ∙ sym (length-customer_keys scale)) key
      ∙ ap is_some (customer_place scale key) ∙ some_if (has_customer scale key) _

  pub history_keys : (key : _) → map.contains_key (database scale rows).histories key ≡ has_district scale key
  history_keys key = contains-dense districts_total districts_exact (district_keys scale) rows.histories.items (counts.histories ∙ sym (length-district_keys scale)) key
      ∙ ap is_some (district_place scale key) ∙ some_if (has_district scale key) _
