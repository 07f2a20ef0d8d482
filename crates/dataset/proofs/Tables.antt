-- The rows that a loop reads are those of the tables.
use Rattle.std.proofs.Common.{◌≡◌, Bool, ℕ, ◌+◌, ◌≤◌, List, [], ◌∷◌, ◌++◌, map, length, sum, codes, refl, sym, ap, subst, ◌∙◌, arith}
use Rattle.std.specs.List.{zip, flat_map, AllZip}
use Rattle.std.specs.List.Sorted.{IsStrictlySortedBy}
use Rattle.std.specs.Map.{keys_of}
use Rattle.std.specs.BTreeMap.{IsOrdered}
use Rattle.std.specs.declared.cmp.Ordering.{Ordering}
use Rattle.std.specs.FinMap.{entries, from_entries}
use Rattle.std.proofs.lemmas.List.{length-append, length-map}
use Rattle.std.proofs.lemmas.List.Sums.{sum-map, sum_by-cons}
use Rattle.std.proofs.lemmas.Slice.Zip.{firsts-zip, length-zip}
use Rattle.rows.specs.declared.keys.DistrictKey.{DistrictKey}
use Rattle.rows.specs.declared.keys.OrderKey.{OrderKey}
use Rattle.rows.specs.declared.keys.OrderLineKey.{OrderLineKey}
use Rattle.rows.specs.declared.records.Item.{Item}
use Rattle.rows.specs.declared.records.Warehouse.{Warehouse}
use Rattle.rows.specs.declared.records.District.{District}
use Rattle.rows.specs.declared.records.Stock.{Stock}
use Rattle.rows.specs.declared.records.Customer.{Customer}
use Rattle.rows.specs.declared.records.History.{History}
use Rattle.rows.specs.declared.records.Order.{Order}
use Rattle.rows.specs.declared.records.OrderLine.{OrderLine}
use Rattle.rows.specs.Keys.{order_cmp, line_cmp}
use Rattle.schema.specs.declared.scale.Scale.{Scale}
use Rattle.schema.specs.declared.table_rows.TableRows.{TableRows}
use Rattle.schema.specs.Scale.{item_ids, warehouse_ids, district_keys, stock_keys, customer_keys}
use Rattle.schema.specs.Rows.{database, HasCounts}
use Rattle.schema.proofs.KeyOrders.{orders_total, lines_total}
use Rattle.schema.proofs.OrderedParts.{entries-ordered}
use Rattle.schema.proofs.ScalePlaces.{length-item_ids, length-warehouse_ids, length-district_keys, length-stock_keys, length-customer_keys}
use Rattle.dataset.specs.declared.format.Format.{Format}
use Rattle.dataset.specs.declared.format.Format.TheVariants.{One, Two}
use Rattle.dataset.specs.Formats.{IsWithinFormat}
use Rattle.dataset.specs.Records.{Field, Words, Number, AreSpelt, AreRecordsIn, order_records, line_records, row_records, table_records, payment_records, records, records_by_table, end_fields, header_fields, item_fields, warehouse_fields, district_fields, stock_fields, customer_fields, history_fields, order_fields, new_order_fields, line_fields}
use Rattle.dataset.specs.Writing.{count_fields, records_with}
use Rattle.dataset.proofs.Keys.{AreScaleKeys, customers_of_scale, districts_of_scale, items_of_scale, stocks_of_scale, warehouses_of_scale}

-- the entries of a table whose rows are in key order
pub dense : {K X : Type 0} {R : K → K → Ordering} {has : K → Bool} {ks : List K} → AreScaleKeys R has ks → (xs : List X) → length xs ≡ length ks
    → entries (from_entries {R = R} (zip ks xs)) ≡ zip ks xs
dense {R = R} {ks = ks} keys xs even = entries-ordered keys.total (zip ks xs) (subst (IsStrictlySortedBy R) (sym (firsts-zip ks xs even)) keys.sorted)

length-payments : (ks : List DistrictKey) (lists : List (List History)) → length lists ≡ length ks → length (payment_records (zip ks lists)) ≡ sum (map length lists)
length-payments [] [] even = refl
length-payments [] (list ∷ lists) even = absurd (omega arith)
length-payments (k ∷ ks) [] even = absurd (omega arith)
length-payments (k ∷ ks) (list ∷ lists) even =
    length-append (map (history_fields k) list) (payment_records (zip ks lists))
    ∙ ap (λ n. n + length (payment_records (zip ks lists))) (length-map list (history_fields k))
    ∙ ap (λ n. length list + n) (length-payments ks lists (omega arith) ∙ sum-map length lists)
    ∙ sym (sum-map length (list ∷ lists) ∙ sum_by-cons length list lists)

-- there is no row more than keys
pub few : {X : Type 0} {n : ℕ} {xs ys : List X} → length ys ≡ n → xs ≡ ys → length xs ≤ n
few even same = omega (arith, even, ap length same)

-- the records of rows that are in the order of the scale's keys
abbrev pub items_of : Scale → List Item → List (List Field)
items_of scale items = row_records item_fields (zip (item_ids scale) items)

abbrev pub warehouses_of : Scale → List Warehouse → List (List Field)
warehouses_of scale warehouses = row_records warehouse_fields (zip (warehouse_ids scale) warehouses)

abbrev pub districts_of : Scale → List District → List (List Field)
districts_of scale districts = row_records district_fields (zip (district_keys scale) districts)

abbrev pub stocks_of : Scale → List Stock → List (List Field)
stocks_of scale stocks = row_records stock_fields (zip (stock_keys scale) stocks)

abbrev pub customers_of : Scale → List Customer → List (List Field)
customers_of scale customers = row_records customer_fields (zip (customer_keys scale) customers)

abbrev pub histories_of : Scale → List (List History) → List (List Field)
histories_of scale lists = payment_records (zip (district_keys scale) lists)

-- the records of orders that are rows of a format, with those of these lines that are their own in format 2
abbrev pub orders_of : Format → List (OrderLineKey × OrderLine) → List (OrderKey × Order) → List (List Field)
orders_of One lines orders = row_records order_fields orders
orders_of Two lines orders = records_with lines orders

-- the records of the lines, which format 2 does not have
abbrev pub lines_apart : Format → List (OrderLineKey × OrderLine) → List (List Field)
lines_apart One lines = row_records line_fields lines
lines_apart Two lines = []

-- the records of six tables, whose rows are in key order, followed by others
abbrev dense_then : Scale → TableRows → List (List (List Field)) → List (List (List Field))
dense_then scale rows others =
    items_of scale rows.items.items ∷ warehouses_of scale rows.warehouses.items ∷ districts_of scale rows.districts.items
    ∷ stocks_of scale rows.stocks.items ∷ customers_of scale rows.customers.items ∷ histories_of scale rows.histories.items ∷ others

-- the records of these rows in a format, table by table
abbrev pub rows_by_table : Format → Scale → TableRows → List (List (List Field))
rows_by_table format scale rows =
    dense_then scale rows
    (orders_of format rows.lines rows.orders.entries ∷ row_records new_order_fields rows.new_orders.entries ∷ lines_apart format rows.lines ∷ [])

-- the records of the three other tables, by ascending keys
abbrev pub ordered_by_table : Format → Scale → TableRows → List (List (List Field))
ordered_by_table format scale rows =
    order_records format (database scale rows) ∷ table_records new_order_fields (database scale rows).new_orders
    ∷ line_records format (database scale rows) ∷ []

-- those of the six and of the three
abbrev pub sorted_by_table : Format → Scale → TableRows → List (List (List Field))
sorted_by_table format scale rows = dense_then scale rows (ordered_by_table format scale rows)

module _ (scale : Scale) (rows : TableRows) where
  module _ (counts : HasCounts scale rows) where
    pub item_count : length rows.items.items ≡ length (item_ids scale)
    item_count = counts.items ∙ sym (length-item_ids scale)

    pub warehouse_count : length rows.warehouses.items ≡ length (warehouse_ids scale)
    warehouse_count = counts.warehouses ∙ sym (length-warehouse_ids scale)

    pub district_count : length rows.districts.items ≡ length (district_keys scale)
    district_count = counts.districts ∙ sym (length-district_keys scale)

    pub stock_count : length rows.stocks.items ≡ length (stock_keys scale)
    stock_count = counts.stocks ∙ sym (length-stock_keys scale)

    pub customer_count : length rows.customers.items ≡ length (customer_keys scale)
    customer_count = counts.customers ∙ sym (length-customer_keys scale)

    pub history_count : length rows.histories.items ≡ length (district_keys scale)
    history_count = counts.histories ∙ sym (length-district_keys scale)

    zip_count : {K X : Type 0} (fields : K → X → List Field) (ks : List K) (xs : List X) → length xs ≡ length ks → length (row_records fields (zip ks xs)) ≡ length xs
    zip_count fields ks xs even = omega (arith, length-map (zip ks xs) (λ e. fields e.0 e.1), length-zip ks xs, even)

    counted : end_fields (rows_by_table One scale rows) ≡ count_fields rows
    counted i =
        Words (codes "END") ∷ Number (zip_count item_fields (item_ids scale) rows.items.items item_count i)
        ∷ Number (zip_count warehouse_fields (warehouse_ids scale) rows.warehouses.items warehouse_count i)
        ∷ Number (zip_count district_fields (district_keys scale) rows.districts.items district_count i)
        ∷ Number (zip_count stock_fields (stock_keys scale) rows.stocks.items stock_count i)
        ∷ Number (zip_count customer_fields (customer_keys scale) rows.customers.items customer_count i)
        ∷ Number (length-payments (district_keys scale) rows.histories.items history_count i)
        ∷ Number (length-map rows.orders.entries (λ e. order_fields e.0 e.1) i)
        ∷ Number (length-map rows.new_orders.entries (λ e. new_order_fields e.0 e.1) i)
        ∷ Number (length-map rows.lines (λ e. line_fields e.0 e.1) i) ∷ []

    sorted : (format : Format) → records_by_table format (database scale rows) ≡ sorted_by_table format scale rows
    unfolding records_by_table
    sorted format i =
        row_records item_fields (dense (items_of_scale scale) rows.items.items item_count i)
        ∷ row_records warehouse_fields (dense (warehouses_of_scale scale) rows.warehouses.items warehouse_count i)
        ∷ row_records district_fields (dense (districts_of_scale scale) rows.districts.items district_count i)
        ∷ row_records stock_fields (dense (stocks_of_scale scale) rows.stocks.items stock_count i)
        ∷ row_records customer_fields (dense (customers_of_scale scale) rows.customers.items customer_count i)
        ∷ payment_records (dense (districts_of_scale scale) rows.histories.items history_count i)
        ∷ ordered_by_table format scale rows

    -- the tables' records are the header, those, and the end
    pub records-sorted : (format : Format) → records format (database scale rows)
        ≡ (header_fields format scale ∷ []) ++ (flat_map (λ part. part) (sorted_by_table format scale rows) ++ (end_fields (records_by_table One (database scale rows)) ∷ []))
    unfolding records
    records-sorted format =
        ap (λ parts. (header_fields format scale ∷ []) ++ (flat_map (λ part. part) parts ++ (end_fields (records_by_table One (database scale rows)) ∷ []))) (sorted format)

    module _ (orders : IsOrdered order_cmp rows.orders) (new_orders : IsOrdered order_cmp rows.new_orders) (lines : IsStrictlySortedBy line_cmp (keys_of rows.lines)) where
      by_order : (format : Format) → order_records format (database scale rows) ≡ orders_of format rows.lines rows.orders.entries
      by_order One = ap (row_records order_fields) (entries-ordered orders_total rows.orders.entries orders)
      by_order Two = ap (records_with rows.lines) (entries-ordered orders_total rows.orders.entries orders)

      by_line : (format : Format) → line_records format (database scale rows) ≡ lines_apart format rows.lines
      by_line One = ap (row_records line_fields) (entries-ordered lines_total rows.lines lines)
      by_line Two = refl

      by_table : (format : Format) → records_by_table format (database scale rows) ≡ rows_by_table format scale rows
      by_table format =
          sorted format
          ∙ ap (dense_then scale rows) (λ i.
          by_order format i ∷ row_records new_order_fields (entries-ordered orders_total rows.new_orders.entries new_orders i) ∷ by_line format i ∷ [])

      -- the end is that of the rows
      pub end-counts : end_fields (records_by_table One (database scale rows)) ≡ count_fields rows
      end-counts = ap end_fields (by_table One) ∙ counted

      -- so what was written for the rows is the tables' records
      pub are-records : (format : Format) → IsWithinFormat format (database scale rows) → (written : List (List (List ℕ)))
          → AllZip AreSpelt ((header_fields format scale ∷ flat_map (λ part. part) (rows_by_table format scale rows)) ++ (count_fields rows ∷ [])) written
          → AreRecordsIn format (database scale rows) written
      unfolding records AreRecordsIn
      are-records format within written spelt =
          let all : records format (database scale rows) ≡ (header_fields format scale ∷ flat_map (λ part. part) (rows_by_table format scale rows)) ++ (count_fields rows ∷ []) =
          (λ i. (header_fields format scale ∷ flat_map (λ part. part) (by_table format i)) ++ (end-counts i ∷ [])) in
          (within, subst (λ fields. AllZip AreSpelt fields written) (sym all) spelt)
