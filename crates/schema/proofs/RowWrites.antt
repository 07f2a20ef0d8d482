-- A row in place of another, and a payment more: the rows still fit the scale, and the table has the row put in.
use Rattle.std.proofs.Common.{◌≡◌, ℕ, ◌<◌, Bool, cond, List, [], ◌∷◌, ◌++◌, length, Option, Some, None, Result, Ok, Err, OnOk, OnErr, IsTrue, unwrap_or, slice_set, slice_index_or, sym, ap, subst, ◌∙◌, arith}
use Rattle.std.specs.List.{zip, slice_get}
use Rattle.std.specs.Option.{option_and_then}
use Rattle.std.specs.Vec.{with_item}
use Rattle.std.specs.Cmp.{nat_cmp_total}
use Rattle.std.specs.FinMap as map
use Rattle.std.specs.FinMap.{nat_cmp-IsAntisymmetric}
use Rattle.std.proofs.lemmas.List.{length-set, set-get_or}
use Rattle.std.proofs.lemmas.Option.{slice_get-get_or}
use Rattle.rows.specs.declared.keys.DistrictKey.{DistrictKey}
use Rattle.rows.specs.declared.keys.StockKey.{StockKey}
use Rattle.rows.specs.declared.keys.CustomerKey.{CustomerKey}
use Rattle.rows.specs.declared.records.Warehouse.{Warehouse}
use Rattle.rows.specs.declared.records.District.{District}
use Rattle.rows.specs.declared.records.Stock.{Stock}
use Rattle.rows.specs.declared.records.Customer.{Customer}
use Rattle.rows.specs.declared.records.History.{History}
use Rattle.schema.specs.declared.scale.Scale.{Scale}
use Rattle.schema.specs.declared.table_rows.TableRows.{TableRows}
use Rattle.schema.specs.Dense.{place}
use Rattle.schema.specs.EachRow.{EachRow}
use Rattle.schema.specs.Scale.{has_customer, warehouse_ids, district_keys, stock_keys, customer_keys, warehouse_slot, district_slot, stock_slot, customer_slot}
use Rattle.schema.specs.Database.{Database, with_payment, without_last, without_payment, are_payers_known}
use Rattle.schema.specs.Rows.{HasCounts, FitsScale, database}
use Rattle.schema.proofs.ScaleKept.{known-append, known-take, EachRow-insert}
use Rattle.schema.proofs.Places.{place-within, insert-dense, get-dense}
use Rattle.schema.proofs.KeyOrders.{districts_total, districts_exact, stocks_total, stocks_exact, customers_total, customers_exact}
use Rattle.schema.proofs.ScalePlaces.{warehouse_place, district_place, stock_place, customer_place, length-warehouse_ids, length-district_keys, length-stock_keys, length-customer_keys}
use Rattle.schema.proofs.ScaleRules.{warehouse_keys, district_keys_are, stock_keys_are, customer_keys_are, history_keys}

-- a key of the scale has a slot
pub has_slot : (inside : Bool) (n : ℕ) (slot : Option ℕ) → slot ≡ cond inside (Some n) None → slot ≡ None → IsTrue inside → ⊥
has_slot inside n slot is none h =
    let there : slot ≡ Some n = is ∙ ap (λ b. cond b (Some n) None) h in
    cc

slot_within : {K : Type 0} (t : K → Bool) (ks : List K) (slot : Option ℕ) (n count : ℕ) → place t ks ≡ slot → slot ≡ Some n → count ≡ length ks → n < count
slot_within t ks slot n count placed is even = let below : n < length ks = place-within t ks n (placed ∙ is) in omega arith

-- ---- a row in place of another

module _ (scale : Scale) (rows : TableRows) (h : FitsScale scale rows) where
  pub warehouse_within : (key : ℕ) (n : ℕ) → warehouse_slot scale key ≡ Some n → n < length rows.warehouses.items
  warehouse_within key n is = slot_within _ (warehouse_ids scale) (warehouse_slot scale key) n (length rows.warehouses.items) (warehouse_place scale key) is (h.counts.warehouses ∙ sym (length-warehouse_ids scale))

  pub warehouse_put : (key : ℕ) (row : Warehouse) (n : ℕ) → warehouse_slot scale key ≡ Some n
      → database scale (record rows { warehouses = with_item rows.warehouses n row }) ≡ record (database scale rows) { warehouses = map.insert (database scale rows).warehouses key row }
  warehouse_put key row n is =
      ap (λ m. record (database scale rows) { warehouses = m })
      (insert-dense nat_cmp_total nat_cmp-IsAntisymmetric (warehouse_ids scale) rows.warehouses.items key row n (warehouse_place scale key ∙ is) (warehouse_within key n is))

  pub warehouse_fits : (row : Warehouse) (n : ℕ) → FitsScale scale (record rows { warehouses = with_item rows.warehouses n row })
  warehouse_fits row n =
      let new : TableRows = record rows { warehouses = with_item rows.warehouses n row } in
      let counts : HasCounts scale new = record {
        items = h.counts.items;
        warehouses = length-set rows.warehouses.items n row ∙ h.counts.warehouses;
        districts = h.counts.districts;
        stocks = h.counts.stocks;
        customers = h.counts.customers;
        histories = h.counts.histories;
      } in
      record {
        counts = counts;
        within = record {
          items = h.within.items;
          warehouses = warehouse_keys scale new counts;
          districts = district_keys_are scale new counts;
          stocks = stock_keys_are scale new counts;
          customers = customer_keys_are scale new counts;
          histories = h.within.histories;
          payers_known = h.within.payers_known;
          orders_numbered = h.within.orders_numbered;
          orders_have_customers = h.within.orders_have_customers;
          new_orders_have_orders = h.within.new_orders_have_orders;
          lines_have_orders = h.within.lines_have_orders;
          lines_numbered = h.within.lines_numbered;
          lines_have_items = h.within.lines_have_items;
          lines_have_suppliers = h.within.lines_have_suppliers;
        };
      }

  pub district_within : (key : DistrictKey) (n : ℕ) → district_slot scale key ≡ Some n → n < length rows.districts.items
  district_within key n is = slot_within _ (district_keys scale) (district_slot scale key) n (length rows.districts.items) (district_place scale key) is (h.counts.districts ∙ sym (length-district_keys scale))

  pub district_put : (key : DistrictKey) (row : District) (n : ℕ) → district_slot scale key ≡ Some n
      → database scale (record rows { districts = with_item rows.districts n row }) ≡ record (database scale rows) { districts = map.insert (database scale rows).districts key row }
  district_put key row n is =
      ap (λ m. record (database scale rows) { districts = m })
      (insert-dense districts_total districts_exact (district_keys scale) rows.districts.items key row n (district_place scale key ∙ is) (district_within key n is))

  pub district_fits : (row : District) (n : ℕ) → FitsScale scale (record rows { districts = with_item rows.districts n row })
  district_fits row n =
      let new : TableRows = record rows { districts = with_item rows.districts n row } in
      let counts : HasCounts scale new = record {
        items = h.counts.items;
        warehouses = h.counts.warehouses;
        districts = length-set rows.districts.items n row ∙ h.counts.districts;
        stocks = h.counts.stocks;
        customers = h.counts.customers;
        histories = h.counts.histories;
      } in
      record {
        counts = counts;
        within = record {
          items = h.within.items;
          warehouses = warehouse_keys scale new counts;
          districts = district_keys_are scale new counts;
          stocks = stock_keys_are scale new counts;
          customers = customer_keys_are scale new counts;
          histories = h.within.histories;
          payers_known = h.within.payers_known;
          orders_numbered = h.within.orders_numbered;
          orders_have_customers = h.within.orders_have_customers;
          new_orders_have_orders = h.within.new_orders_have_orders;
          lines_have_orders = h.within.lines_have_orders;
          lines_numbered = h.within.lines_numbered;
          lines_have_items = h.within.lines_have_items;
          lines_have_suppliers = h.within.lines_have_suppliers;
        };
      }

  pub stock_within : (key : StockKey) (n : ℕ) → stock_slot scale key ≡ Some n → n < length rows.stocks.items
  stock_within key n is = slot_within _ (stock_keys scale) (stock_slot scale key) n (length rows.stocks.items) (stock_place scale key) is (h.counts.stocks ∙ sym (length-stock_keys scale))

  pub stock_put : (key : StockKey) (row : Stock) (n : ℕ) → stock_slot scale key ≡ Some n
      → database scale (record rows { stocks = with_item rows.stocks n row }) ≡ record (database scale rows) { stocks = map.insert (database scale rows).stocks key row }
  stock_put key row n is =
      ap (λ m. record (database scale rows) { stocks = m })
      (insert-dense stocks_total stocks_exact (stock_keys scale) rows.stocks.items key row n (stock_place scale key ∙ is) (stock_within key n is))

  pub stock_fits : (row : Stock) (n : ℕ) → FitsScale scale (record rows { stocks = with_item rows.stocks n row })
  stock_fits row n =
      let new : TableRows = record rows { stocks = with_item rows.stocks n row } in
      let counts : HasCounts scale new = record {
        items = h.counts.items;
        warehouses = h.counts.warehouses;
        districts = h.counts.districts;
        stocks = length-set rows.stocks.items n row ∙ h.counts.stocks;
        customers = h.counts.customers;
        histories = h.counts.histories;
      } in
      record {
        counts = counts;
        within = record {
          items = h.within.items;
          warehouses = warehouse_keys scale new counts;
          districts = district_keys_are scale new counts;
          stocks = stock_keys_are scale new counts;
          customers = customer_keys_are scale new counts;
          histories = h.within.histories;
          payers_known = h.within.payers_known;
          orders_numbered = h.within.orders_numbered;
          orders_have_customers = h.within.orders_have_customers;
          new_orders_have_orders = h.within.new_orders_have_orders;
          lines_have_orders = h.within.lines_have_orders;
          lines_numbered = h.within.lines_numbered;
          lines_have_items = h.within.lines_have_items;
          lines_have_suppliers = h.within.lines_have_suppliers;
        };
      }

  pub customer_within : (key : CustomerKey) (n : ℕ) → customer_slot scale key ≡ Some n → n < length rows.customers.items
  customer_within key n is = slot_within _ (customer_keys scale) (customer_slot scale key) n (length rows.customers.items) (customer_place scale key) is (h.counts.customers ∙ sym (length-customer_keys scale))

  pub customer_put : (key : CustomerKey) (row : Customer) (n : ℕ) → customer_slot scale key ≡ Some n
      → database scale (record rows { customers = with_item rows.customers n row }) ≡ record (database scale rows) { customers = map.insert (database scale rows).customers key row }
  customer_put key row n is =
      ap (λ m. record (database scale rows) { customers = m })
      (insert-dense customers_total customers_exact (customer_keys scale) rows.customers.items key row n (customer_place scale key ∙ is) (customer_within key n is))

  pub customer_fits : (row : Customer) (n : ℕ) → FitsScale scale (record rows { customers = with_item rows.customers n row })
  customer_fits row n =
      let new : TableRows = record rows { customers = with_item rows.customers n row } in
      let counts : HasCounts scale new = record {
        items = h.counts.items;
        warehouses = h.counts.warehouses;
        districts = h.counts.districts;
        stocks = h.counts.stocks;
        customers = length-set rows.customers.items n row ∙ h.counts.customers;
        histories = h.counts.histories;
      } in
      record {
        counts = counts;
        within = record {
          items = h.within.items;
          warehouses = warehouse_keys scale new counts;
          districts = district_keys_are scale new counts;
          stocks = stock_keys_are scale new counts;
          customers = customer_keys_are scale new counts;
          histories = h.within.histories;
          payers_known = h.within.payers_known;
          orders_numbered = h.within.orders_numbered;
          orders_have_customers = h.within.orders_have_customers;
          new_orders_have_orders = h.within.new_orders_have_orders;
          lines_have_orders = h.within.lines_have_orders;
          lines_numbered = h.within.lines_numbered;
          lines_have_items = h.within.lines_have_items;
          lines_have_suppliers = h.within.lines_have_suppliers;
        };
      }

-- ---- a payment more

-- what follows from each outcome follows
pub by_outcome : {T E P Q G : Type 0} (r : Result T E) → OnOk r P → OnErr r Q → (P → G) → (Q → G) → G
by_outcome (Ok x) p q f g = f p
by_outcome (Err e) p q f g = g q

module _ (scale : Scale) (rows : TableRows) (h : FitsScale scale rows) where
  pub history_within : (key : DistrictKey) (n : ℕ) → district_slot scale key ≡ Some n → n < length rows.histories.items
  history_within key n is = slot_within _ (district_keys scale) (district_slot scale key) n (length rows.histories.items) (district_place scale key) is (h.counts.histories ∙ sym (length-district_keys scale))

  -- the list at a place is that of the district
  pub list_read : (key : DistrictKey) (n : ℕ) (list : List History) → district_slot scale key ≡ Some n → list ≡ slice_index_or rows.histories.items n list
      → map.get (database scale rows).histories key ≡ Some list
  list_read key n list is read =
      get-dense districts_total districts_exact (district_keys scale) rows.histories.items key
      ∙ ap (option_and_then (slice_get rows.histories.items)) (district_place scale key ∙ is)
      ∙ slice_get-get_or rows.histories.items n list (history_within key n is)
      ∙ ap Some (sym read)

  pub history_put : (key : DistrictKey) (list : List History) (n : ℕ) → district_slot scale key ≡ Some n
      → database scale (record rows { histories = with_item rows.histories n list }) ≡ record (database scale rows) { histories = map.insert (database scale rows).histories key list }
  history_put key list n is =
      ap (λ m. record (database scale rows) { histories = m })
      (insert-dense districts_total districts_exact (district_keys scale) rows.histories.items key list n (district_place scale key ∙ is) (history_within key n is))

  pub history_fits : (key : DistrictKey) (list : List History) (n : ℕ) → district_slot scale key ≡ Some n → IsTrue (are_payers_known scale list)
      → FitsScale scale (record rows { histories = with_item rows.histories n list })
  history_fits key list n is known =
      let new : TableRows = record rows { histories = with_item rows.histories n list } in
      let counts : HasCounts scale new = record {
        items = h.counts.items;
        warehouses = h.counts.warehouses;
        districts = h.counts.districts;
        stocks = h.counts.stocks;
        customers = h.counts.customers;
        histories = length-set rows.histories.items n list ∙ h.counts.histories;
      } in
      record {
        counts = counts;
        within = record {
          items = h.within.items;
          warehouses = h.within.warehouses;
          districts = h.within.districts;
          stocks = h.within.stocks;
          customers = h.within.customers;
          histories = history_keys scale new counts;
          payers_known = subst (λ m. EachRow (λ _ rows. are_payers_known scale rows) m) (sym (ap (λ (t : Database). t.histories) (history_put key list n is)))
              (EachRow-insert districts_total districts_exact (λ _ rows. are_payers_known scale rows) (database scale rows).histories key list h.within.payers_known known);
          orders_numbered = h.within.orders_numbered;
          orders_have_customers = h.within.orders_have_customers;
          new_orders_have_orders = h.within.new_orders_have_orders;
          lines_have_orders = h.within.lines_have_orders;
          lines_numbered = h.within.lines_numbered;
          lines_have_items = h.within.lines_have_items;
          lines_have_suppliers = h.within.lines_have_suppliers;
        };
      }

  -- the list with a payment more
  pub payment_fits : (key : DistrictKey) (n : ℕ) (list : List History) (row : History) → district_slot scale key ≡ Some n → list ≡ slice_index_or rows.histories.items n list
      → IsTrue (has_customer scale row.customer) → FitsScale scale (record rows { histories = with_item rows.histories n (list ++ row ∷ []) })
  payment_fits key n list row is read known =
      history_fits key (list ++ row ∷ []) n is (known-append scale list row (h.within.payers_known key list (list_read key n list is read)) known)

  pub payment_put : (key : DistrictKey) (n : ℕ) (list : List History) (row : History) → district_slot scale key ≡ Some n → list ≡ slice_index_or rows.histories.items n list
      → database scale (record rows { histories = with_item rows.histories n (list ++ row ∷ []) }) ≡ record (database scale rows) { histories = with_payment (database scale rows).histories key row }
  payment_put key n list row is read =
      history_put key (list ++ row ∷ []) n is
      ∙ ap (λ (l : List History). record (database scale rows) { histories = map.insert (database scale rows).histories key (l ++ row ∷ []) })
      (sym (ap (λ r. unwrap_or r []) (list_read key n list is read)))

  -- the list without its last payment
  pub payment_gone_fits : (key : DistrictKey) (n : ℕ) (list : List History) → district_slot scale key ≡ Some n → list ≡ slice_index_or rows.histories.items n list
      → FitsScale scale (record rows { histories = with_item rows.histories n (without_last list) })
  payment_gone_fits key n list is read =
      history_fits key (without_last list) n is (known-take scale _ list (h.within.payers_known key list (list_read key n list is read)))

  pub payment_gone_put : (key : DistrictKey) (n : ℕ) (list : List History) → district_slot scale key ≡ Some n → list ≡ slice_index_or rows.histories.items n list
      → database scale (record rows { histories = with_item rows.histories n (without_last list) }) ≡ record (database scale rows) { histories = without_payment (database scale rows).histories key }
  payment_gone_put key n list is read =
      history_put key (without_last list) n is
      ∙ ap (λ (l : List History). record (database scale rows) { histories = map.insert (database scale rows).histories key (without_last l) })
      (sym (ap (λ r. unwrap_or r []) (list_read key n list is read)))

  -- a list put in its own place changes nothing
  pub history_same : (n : ℕ) (list : List History) → list ≡ slice_index_or rows.histories.items n list
      → database scale (record rows { histories = with_item rows.histories n list }) ≡ database scale rows
  history_same n list read =
      ap (λ (l : List (List History)). record (database scale rows) { histories = map.from_entries (zip (district_keys scale) l) }) (ap (slice_set rows.histories.items n) read ∙ set-get_or rows.histories.items n list)
