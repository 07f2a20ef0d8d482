-- A row in place of another, and a payment more: the rows still make a part, and its table has the row put in.
use Rattle.std.proofs.Common.{◌≡◌, ℕ, ◌*◌, ◌<◌, List, [], ◌∷◌, ◌++◌, length, Some, Vec, IsTrue, is_some, unwrap_or, slice_set, slice_index_or, refl, sym, ap, subst, ◌∙◌, arith, lit<}
use Rattle.std.specs.List.{zip, slice_get}
use Rattle.std.specs.Option.{option_and_then}
use Rattle.std.specs.Vec.{with_item}
use Rattle.std.specs.Cmp.{nat_cmp_total}
use Rattle.std.specs.Ordering.{eq_by_cmp}
use Rattle.std.specs.FinMap as map
use Rattle.std.specs.FinMap.{nat_cmp-IsAntisymmetric}
use Rattle.std.specs.declared.alloc.Global.{Global}
use Rattle.std.proofs.lemmas.List.{length-set, set-get_or}
use Rattle.std.proofs.lemmas.Option.{slice_get-get_or}
use Rattle.rows.specs.declared.keys.DistrictKey.{DistrictKey}
use Rattle.rows.specs.declared.keys.StockKey.{StockKey}
use Rattle.rows.specs.declared.keys.CustomerKey.{CustomerKey}
use Rattle.rows.specs.declared.records.Warehouse.{Warehouse}
use Rattle.rows.specs.declared.records.District.{District}
use Rattle.rows.specs.declared.records.Stock.{Stock}
use Rattle.rows.specs.declared.records.Customer.{Customer}
use Rattle.rows.specs.declared.records.History.{History}
use Rattle.rows.specs.Keys.{district_cmp, stock_cmp, customer_cmp}
use Rattle.schema.specs.EachRow.{EachRow}
use Rattle.schema.specs.Scale.{has_customer}
use Rattle.schema.specs.Database.{with_payment, without_last, without_payment, are_payers_known}
use Rattle.schema.proofs.ScaleKept.{known-append, known-take, EachRow-insert}
use Rattle.schema.proofs.ScaleRules.{some_if}
use Rattle.schema.proofs.Places.{contains-dense, insert-dense, get-dense, place-within}
use Rattle.schema.proofs.KeyOrders.{districts_total, districts_exact, stocks_total, stocks_exact, customers_total, customers_exact}
use Rattle.partitions.specs.declared.home_rows.HomeRows.{HomeRows}
use Rattle.partitions.specs.Parts.{SharedTables, Part, is_of, has_district_of, has_stock_of}
use Rattle.partitions.specs.Partitions.{district_keys_of, stock_keys_of, customer_keys_of, part, FitsPart}
use Rattle.partitions.specs.Slots.{customer_slot_by, home_slot, home_stock_slot}
use Rattle.partitions.proofs.HomePlaces.{warehouse_place, warehouse_first, district_place, stock_place, customer_place, length-district_keys_of, length-stock_keys_of, length-customer_keys_of}
use Rattle.partitions.proofs.HomeSlots.{slot_within, customer_there}

module _ (shared : SharedTables) (home : ℕ) (rows : HomeRows) (h : FitsPart shared home rows) where
  -- as many rows in five tables, with payers that are known, make a part again
  refilled : (warehouse : Warehouse) (districts : Vec District Global) (stocks : Vec Stock Global) (customers : Vec Customer Global) (histories : Vec (List History) Global)
      → length districts.items ≡ 10 → length stocks.items ≡ shared.scale.items → length customers.items ≡ 10 * shared.scale.customers → length histories.items ≡ 10
      → EachRow {R = district_cmp} (λ _ list. are_payers_known shared.scale list) (map.from_entries (zip (district_keys_of home) histories.items))
      → FitsPart shared home (record rows { warehouse = warehouse; districts = districts; stocks = stocks; customers = customers; histories = histories })
  refilled warehouse districts stocks customers histories ten_districts all_stocks all_customers ten_lists known = record {
    counts = record { districts = ten_districts; stocks = all_stocks; customers = all_customers; histories = ten_lists };
    is_part = record {
      home = h.is_part.home;
      items = h.is_part.items;
      warehouses = λ key.
          contains-dense nat_cmp_total nat_cmp-IsAntisymmetric (home ∷ []) (warehouse ∷ []) refl key
          ∙ ap is_some (warehouse_place home key) ∙ some_if (is_of home key) 0;
      districts = λ key.
          contains-dense districts_total districts_exact (district_keys_of home) districts.items (ten_districts ∙ sym (length-district_keys_of home)) key
          ∙ ap is_some (district_place home key) ∙ some_if (has_district_of home key) _;
      stocks = λ key.
          contains-dense stocks_total stocks_exact (stock_keys_of shared.scale home) stocks.items (all_stocks ∙ sym (length-stock_keys_of shared.scale home)) key
          ∙ ap is_some (stock_place shared.scale home key) ∙ some_if (has_stock_of shared.scale home key) _;
      customers = λ key.
          contains-dense customers_total customers_exact (customer_keys_of shared.scale home) customers.items (all_customers ∙ sym (length-customer_keys_of shared.scale home)) key
          ∙ ap is_some (customer_place shared.scale home key) ∙ customer_there shared.scale home key;
      histories = λ key.
          contains-dense districts_total districts_exact (district_keys_of home) histories.items (ten_lists ∙ sym (length-district_keys_of home)) key
          ∙ ap is_some (district_place home key) ∙ some_if (has_district_of home key) _;
      orders_here = h.is_part.orders_here;
      new_orders_here = h.is_part.new_orders_here;
      lines_here = h.is_part.lines_here;
      payers_known = known;
      orders_numbered = h.is_part.orders_numbered;
      orders_have_customers = h.is_part.orders_have_customers;
      new_orders_have_orders = h.is_part.new_orders_have_orders;
      lines_have_orders = h.is_part.lines_have_orders;
      lines_numbered = h.is_part.lines_numbered;
      lines_have_items = h.is_part.lines_have_items;
      lines_have_suppliers = h.is_part.lines_have_suppliers;
    };
  }

  -- ---- a row in place of another

  pub warehouse_fits : (row : Warehouse) → FitsPart shared home (record rows { warehouse = row })
  warehouse_fits row = refilled row rows.districts rows.stocks rows.customers rows.histories h.counts.districts h.counts.stocks h.counts.customers h.counts.histories h.is_part.payers_known

  pub warehouse_put : (key : ℕ) (row : Warehouse) → key ≡ home
      → part shared home (record rows { warehouse = row })
      ≡ record (part shared home rows) { tables = record (part shared home rows).tables { warehouses = map.insert (part shared home rows).tables.warehouses key row } }
  warehouse_put key row same =
      ap (λ m. record (part shared home rows) { tables = record (part shared home rows).tables { warehouses = m } })
      (insert-dense nat_cmp_total nat_cmp-IsAntisymmetric (home ∷ []) (rows.warehouse ∷ []) key row 0 (warehouse_first home key same) (lit< tt))

  pub district_within : (key : DistrictKey) (n : ℕ) → home_slot home key ≡ Some n → n < length rows.districts.items
  district_within key n is = omega (arith, slot_within home key n is, h.counts.districts)

  pub district_fits : (row : District) (n : ℕ) → FitsPart shared home (record rows { districts = with_item rows.districts n row })
  district_fits row n =
      refilled rows.warehouse (with_item rows.districts n row) rows.stocks rows.customers rows.histories
      (length-set rows.districts.items n row ∙ h.counts.districts) h.counts.stocks h.counts.customers h.counts.histories h.is_part.payers_known

  pub district_put : (key : DistrictKey) (row : District) (n : ℕ) → home_slot home key ≡ Some n
      → part shared home (record rows { districts = with_item rows.districts n row })
      ≡ record (part shared home rows) { tables = record (part shared home rows).tables { districts = map.insert (part shared home rows).tables.districts key row } }
  district_put key row n is =
      ap (λ m. record (part shared home rows) { tables = record (part shared home rows).tables { districts = m } })
      (insert-dense districts_total districts_exact (district_keys_of home) rows.districts.items key row n (district_place home key ∙ is) (district_within key n is))

  pub stock_within : (key : StockKey) (n : ℕ) → home_stock_slot shared.scale home key ≡ Some n → n < length rows.stocks.items
  stock_within key n is =
      let keys = stock_keys_of shared.scale home in
      let below : n < length keys = place-within (eq_by_cmp stock_cmp key) keys n (stock_place shared.scale home key ∙ is) in
      omega (arith, length-stock_keys_of shared.scale home, h.counts.stocks)

  pub stock_fits : (row : Stock) (n : ℕ) → FitsPart shared home (record rows { stocks = with_item rows.stocks n row })
  stock_fits row n =
      refilled rows.warehouse rows.districts (with_item rows.stocks n row) rows.customers rows.histories
      h.counts.districts (length-set rows.stocks.items n row ∙ h.counts.stocks) h.counts.customers h.counts.histories h.is_part.payers_known

  pub stock_put : (key : StockKey) (row : Stock) (n : ℕ) → home_stock_slot shared.scale home key ≡ Some n
      → part shared home (record rows { stocks = with_item rows.stocks n row })
      ≡ record (part shared home rows) { tables = record (part shared home rows).tables { stocks = map.insert (part shared home rows).tables.stocks key row } }
  stock_put key row n is =
      ap (λ m. record (part shared home rows) { tables = record (part shared home rows).tables { stocks = m } })
      (insert-dense stocks_total stocks_exact (stock_keys_of shared.scale home) rows.stocks.items key row n (stock_place shared.scale home key ∙ is) (stock_within key n is))

  pub customer_within : (key : CustomerKey) (n : ℕ) → customer_slot_by (home_slot home) shared.scale.customers key ≡ Some n → n < length rows.customers.items
  customer_within key n is =
      let keys = customer_keys_of shared.scale home in
      let below : n < length keys = place-within (eq_by_cmp customer_cmp key) keys n (customer_place shared.scale home key ∙ is) in
      omega (arith, length-customer_keys_of shared.scale home, h.counts.customers)

  pub customer_fits : (row : Customer) (n : ℕ) → FitsPart shared home (record rows { customers = with_item rows.customers n row })
  customer_fits row n =
      refilled rows.warehouse rows.districts rows.stocks (with_item rows.customers n row) rows.histories
      h.counts.districts h.counts.stocks (length-set rows.customers.items n row ∙ h.counts.customers) h.counts.histories h.is_part.payers_known

  pub customer_put : (key : CustomerKey) (row : Customer) (n : ℕ) → customer_slot_by (home_slot home) shared.scale.customers key ≡ Some n
      → part shared home (record rows { customers = with_item rows.customers n row })
      ≡ record (part shared home rows) { tables = record (part shared home rows).tables { customers = map.insert (part shared home rows).tables.customers key row } }
  customer_put key row n is =
      ap (λ m. record (part shared home rows) { tables = record (part shared home rows).tables { customers = m } })
      (insert-dense customers_total customers_exact (customer_keys_of shared.scale home) rows.customers.items key row n (customer_place shared.scale home key ∙ is) (customer_within key n is))

  -- ---- a payment more

  pub history_within : (key : DistrictKey) (n : ℕ) → home_slot home key ≡ Some n → n < length rows.histories.items
  history_within key n is = omega (arith, slot_within home key n is, h.counts.histories)

  -- the list at a place is that of the district
  pub list_read : (key : DistrictKey) (n : ℕ) (list : List History) → home_slot home key ≡ Some n → list ≡ slice_index_or rows.histories.items n list
      → map.get (part shared home rows).tables.histories key ≡ Some list
  list_read key n list is read =
      get-dense districts_total districts_exact (district_keys_of home) rows.histories.items key
      ∙ ap (option_and_then (slice_get rows.histories.items)) (district_place home key ∙ is)
      ∙ slice_get-get_or rows.histories.items n list (history_within key n is)
      ∙ ap Some (sym read)

  history_put : (key : DistrictKey) (list : List History) (n : ℕ) → home_slot home key ≡ Some n
      → part shared home (record rows { histories = with_item rows.histories n list })
      ≡ record (part shared home rows) { tables = record (part shared home rows).tables { histories = map.insert (part shared home rows).tables.histories key list } }
  history_put key list n is =
      ap (λ m. record (part shared home rows) { tables = record (part shared home rows).tables { histories = m } })
      (insert-dense districts_total districts_exact (district_keys_of home) rows.histories.items key list n (district_place home key ∙ is) (history_within key n is))

  pub history_fits : (key : DistrictKey) (list : List History) (n : ℕ) → home_slot home key ≡ Some n → IsTrue (are_payers_known shared.scale list)
      → FitsPart shared home (record rows { histories = with_item rows.histories n list })
  history_fits key list n is known =
      refilled rows.warehouse rows.districts rows.stocks rows.customers (with_item rows.histories n list)
      h.counts.districts h.counts.stocks h.counts.customers (length-set rows.histories.items n list ∙ h.counts.histories)
      (subst (λ m. EachRow (λ _ l. are_payers_known shared.scale l) m) (sym (ap (λ (p : Part). p.tables.histories) (history_put key list n is)))
      (EachRow-insert districts_total districts_exact (λ _ l. are_payers_known shared.scale l) (part shared home rows).tables.histories key list h.is_part.payers_known known))

  module _ (key : DistrictKey) (n : ℕ) (list : List History) (is : home_slot home key ≡ Some n) (read : list ≡ slice_index_or rows.histories.items n list) where
    -- every payment of the list names a customer
    pub list_known : IsTrue (are_payers_known shared.scale list)
    list_known = h.is_part.payers_known key list (list_read key n list is read)

    -- the list with a payment more
    pub payment_fits : (row : History) → IsTrue (has_customer shared.scale row.customer)
        → FitsPart shared home (record rows { histories = with_item rows.histories n (list ++ row ∷ []) })
    payment_fits row known = history_fits key (list ++ row ∷ []) n is (known-append shared.scale list row list_known known)

    pub payment_put : (row : History)
        → part shared home (record rows { histories = with_item rows.histories n (list ++ row ∷ []) })
        ≡ record (part shared home rows) { tables = record (part shared home rows).tables { histories = with_payment (part shared home rows).tables.histories key row } }
    payment_put row =
        history_put key (list ++ row ∷ []) n is
        ∙ ap (λ (l : List History). record (part shared home rows) { tables = record (part shared home rows).tables { histories = map.insert (part shared home rows).tables.histories key (l ++ row ∷ []) } })
        (sym (ap (λ r. unwrap_or r []) (list_read key n list is read)))

    -- the list without its last payment
    pub payment_gone_fits : FitsPart shared home (record rows { histories = with_item rows.histories n (without_last list) })
    payment_gone_fits = history_fits key (without_last list) n is (known-take shared.scale _ list list_known)

    pub payment_gone_put : part shared home (record rows { histories = with_item rows.histories n (without_last list) })
        ≡ record (part shared home rows) { tables = record (part shared home rows).tables { histories = without_payment (part shared home rows).tables.histories key } }
    payment_gone_put =
        history_put key (without_last list) n is
        ∙ ap (λ (l : List History). record (part shared home rows) { tables = record (part shared home rows).tables { histories = map.insert (part shared home rows).tables.histories key (without_last l) } })
        (sym (ap (λ r. unwrap_or r []) (list_read key n list is read)))

  -- a list put in its own place changes nothing
  pub history_same : (n : ℕ) (list : List History) → list ≡ slice_index_or rows.histories.items n list
      → part shared home (record rows { histories = with_item rows.histories n list }) ≡ part shared home rows
  history_same n list read =
      ap (λ (l : List (List History)). record (part shared home rows) { tables = record (part shared home rows).tables { histories = map.from_entries (zip (district_keys_of home) l) } })
      (ap (slice_set rows.histories.items n) read ∙ set-get_or rows.histories.items n list)
