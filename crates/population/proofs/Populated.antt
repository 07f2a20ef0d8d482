-- The rows of a population make tables within the scale.
use Rattle.std.proofs.Common.{◌≡◌, ℕ, zero, suc, ◌+◌, Bool, true, false, ◌&&◌, List, [], ◌∷◌, map, Some, None, IsTrue, is_some, sym, ap, subst, ◌∙◌}
use Rattle.std.specs.List.{All, AllByRecursion, list_any, zip, slice_get, flat_map, range_with_len}
use Rattle.std.specs.Map.{keys_of}
use Rattle.std.specs.Option.{option_and_then}
use Rattle.std.specs.Ordering.{eq_by_cmp}
use Rattle.std.specs.declared.cmp.Ordering.{Ordering}
use Rattle.std.specs.Cmp.{IsTotalOrder}
use Rattle.std.specs.FinMap.{IsAntisymmetric}
use Rattle.std.specs.FinMap as table
use Rattle.std.proofs.lemmas.List.Elements.{All-get_or}
use Rattle.std.proofs.lemmas.Option.{slice_get_within, get_or_from_slice_get}
use Rattle.rows.specs.declared.keys.DistrictKey.{DistrictKey}
use Rattle.rows.specs.declared.keys.OrderKey.{OrderKey}
use Rattle.rows.specs.declared.keys.OrderLineKey.{OrderLineKey}
use Rattle.rows.specs.declared.records.History.{History}
use Rattle.rows.specs.declared.records.Order.{Order}
use Rattle.rows.specs.declared.records.OrderLine.{OrderLine}
use Rattle.rows.specs.Keys.{order_cmp, order_of_line}
use Rattle.schema.specs.declared.scale.Scale.{Scale}
use Rattle.schema.specs.declared.table_rows.TableRows.{TableRows}
use Rattle.schema.specs.Dense.{place}
use Rattle.schema.specs.Scale.{has_district, district_keys}
use Rattle.schema.specs.Database.{PayersKnown, NewOrdersHaveOrders, LinesHaveOrders}
use Rattle.schema.specs.OrderRows.{line_key}
use Rattle.schema.specs.Rows.{HasCounts, FitsScale, database}
use Rattle.schema.proofs.Places.{get-dense}
use Rattle.schema.proofs.KeyOrders.{districts_total, districts_exact, orders_total, orders_exact, lines_total, lines_exact}
use Rattle.schema.proofs.ScaleRules.{item_keys, warehouse_keys, district_keys_are, stock_keys_are, customer_keys_are, history_keys}
use Rattle.schema.proofs.ScalePlaces.{length-district_keys, place-district_at}
use Rattle.consistency.proofs.TotalsDense.{each-dense}
use Rattle.population.specs.Keys.{district_at}
use Rattle.population.specs.Book.{is_new_order, line_keys}
use Rattle.population.specs.Rows.{IsOpeningOrder, IsOpeningLine, AreOpeningPayments}
use Rattle.population.specs.Filled.{IsPopulated}
use Rattle.population.proofs.Lists.{each_both, each_same, each_from_mapped}
use Rattle.population.proofs.Found.{each_found, all_found, contains_is, each_contained, any_kept}
use Rattle.population.proofs.Payers.{payers_known_of}

second : (b c : Bool) → (b && c) ≡ true → c ≡ true
second true c h = h
second false c h = absurd cc

-- what holds of each row holds of the one at a place
pub all_at : {X : Type 0} (P : X → Type 0) (xs : List X) → All P xs → (n : ℕ) (x : X) → slice_get xs n ≡ Some x → P x
all_at P xs h n x found = subst P (get_or_from_slice_get xs n x x found) (All-get_or P xs n x (slice_get_within xs n x found) h)

-- and of the one that the table of the rows has at a key
pub dense_found : {K X : Type 0} {R : K → K → Ordering} → IsTotalOrder R → IsAntisymmetric R → (P : X → Type 0) (ks : List K) (xs : List X) → All P xs → (key : K) (row : X)
    → table.get (table.from_entries {R = R} (zip ks xs)) key ≡ Some row → P row
dense_found {R = R} o a P ks xs h key row found =
    elim (place (eq_by_cmp R key) ks) as (λ r. option_and_then (slice_get xs) r ≡ Some row → P row) [
      | None ↦ λ e. absurd cc
      | Some n ↦ λ e. all_at P xs h n row e
    ] (sym (get-dense o a ks xs key) ∙ found)

of_one : (P : OrderKey → Type 0) (order : OrderKey) (first count : ℕ) → P order → AllByRecursion (λ key. P (order_of_line key)) (map (line_key order) (range_with_len first count))
of_one P order first zero h = tt
of_one P order first (suc count) h = (h, of_one P order (first + 1) count h)

of_each : (P : OrderKey → Type 0) (es : List (OrderKey × Order)) → AllByRecursion P (keys_of es) → AllByRecursion (λ key. P (order_of_line key)) (flat_map line_keys es)
of_each P [] h = tt
of_each P (e ∷ es) h = each_both (λ key. P (order_of_line key)) (line_keys e) (flat_map line_keys es) (of_one P e.0 1 e.1.ol_cnt h.0) (of_each P es h.1)

module _ {seed now : ℕ} (scale : Scale) (rows : TableRows) (h : IsPopulated scale seed now rows) where
  pub counts : HasCounts scale rows
  counts = record {
    items = h.items;
    warehouses = h.warehouses;
    districts = h.filled.districts_count;
    stocks = h.stocks;
    customers = h.filled.customers_count;
    histories = h.filled.histories_count;
  }

  -- the payments of each district
  pub list_of : (home : DistrictKey) (list : List History) → table.get (database scale rows).histories home ≡ Some list → AreOpeningPayments now home scale.customers list
  list_of =
      (each-dense districts_total districts_exact (λ home list. AreOpeningPayments now home scale.customers list) (district_keys scale) rows.histories.items
      (h.filled.histories_count ∙ sym (length-district_keys scale)) district_at (place-district_at scale)).1 h.filled.payments

  payers_known : PayersKnown (database scale rows)
  payers_known home list found =
      let there : IsTrue (has_district scale home) = sym (history_keys scale rows counts home) ∙ ap is_some found in
      payers_known_of scale home list there (list_of home list found)

  -- each order and each line
  pub order_row : (key : OrderKey) (row : Order) → table.get (database scale rows).orders key ≡ Some row → IsOpeningOrder scale now key row
  order_row = all_found orders_total orders_exact (λ key row. IsOpeningOrder scale now key row) rows.orders.entries h.filled.book.order_rows

  pub line_row : (key : OrderLineKey) (row : OrderLine) → table.get (database scale rows).lines key ≡ Some row → IsOpeningLine scale now key row
  line_row = all_found lines_total lines_exact (λ key row. IsOpeningLine scale now key row) rows.lines h.filled.book.line_rows

  -- the new orders are those orders that are new
  pub new_contained : (key : OrderKey) → table.contains_key (database scale rows).new_orders key ≡ (is_new_order scale key && table.contains_key (database scale rows).orders key)
  new_contained key =
      contains_is orders_total orders_exact rows.new_orders.entries key
      ∙ ap (list_any (eq_by_cmp order_cmp key)) h.filled.book.new_keys
      ∙ any_kept orders_total orders_exact (is_new_order scale) key (keys_of rows.orders.entries)
      ∙ ap (λ b. is_new_order scale key && b) (sym (contains_is orders_total orders_exact rows.orders.entries key))

  new_orders_known : NewOrdersHaveOrders (database scale rows)
  new_orders_known key row found = second (is_new_order scale key) _ (sym (new_contained key) ∙ ap is_some found)

  lines_known : LinesHaveOrders (database scale rows)
  lines_known =
      let P = λ (key : OrderKey). IsTrue (table.contains_key (database scale rows).orders key) in
      let keys : AllByRecursion (λ (key : OrderLineKey). P (order_of_line key)) (keys_of rows.lines) =
      each_same (λ (key : OrderLineKey). P (order_of_line key)) _ _ h.filled.book.line_keys (of_each P rows.orders.entries (each_contained orders_total orders_exact rows.orders.entries)) in
      each_found lines_total lines_exact (λ key _. P (order_of_line key)) rows.lines
      (each_from_mapped (λ (key : OrderLineKey). P (order_of_line key)) (λ e. e.0) rows.lines keys)

  pub fits : FitsScale scale rows
  fits = record {
    counts = counts;
    within = record {
      items = item_keys scale rows counts;
      warehouses = warehouse_keys scale rows counts;
      districts = district_keys_are scale rows counts;
      stocks = stock_keys_are scale rows counts;
      customers = customer_keys_are scale rows counts;
      histories = history_keys scale rows counts;
      payers_known = payers_known;
      orders_numbered = λ key row found. (order_row key row found).number;
      orders_have_customers = λ key row found. (order_row key row found).customer;
      new_orders_have_orders = new_orders_known;
      lines_have_orders = lines_known;
      lines_numbered = λ key row found. (line_row key row found).number;
      lines_have_items = λ key row found. (line_row key row found).item;
      lines_have_suppliers = λ key row found. (line_row key row found).supplier;
    };
  }
