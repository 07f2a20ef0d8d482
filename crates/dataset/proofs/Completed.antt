-- Tables whose records were loaded: the rows make these tables.
use Rattle.std.proofs.Common.{◌≡◌, ◌*◌, ℕ, Bool, List, [], ◌∷◌, ◌++◌, inl, inr, map, length, refl, sym, ap, subst, ◌∙◌, arith}
use Rattle.std.specs.List.{AllZip, zip}
use Rattle.std.specs.List.Sorted.{IsStrictlySortedBy}
use Rattle.std.specs.Map.{keys_of, values_of}
use Rattle.std.specs.declared.cmp.Ordering.{Ordering}
use Rattle.std.specs.Cmp.{IsTotalOrder}
use Rattle.std.specs.FinMap.{FinMap, contains_key, entries, from_entries, same_entries_map}
use Rattle.std.proofs.lemmas.List.{length-map}
use Rattle.std.proofs.lemmas.Slice.Zip.{firsts-zip}
use Rattle.rows.specs.Keys.{district_cmp}
use Rattle.schema.specs.declared.scale.Scale.{Scale}
use Rattle.schema.specs.declared.table_rows.TableRows.{TableRows}
use Rattle.schema.specs.Database.{Database, IsWithinScale}
use Rattle.schema.specs.Rows.{database, FitsScale, HasCounts}
use Rattle.schema.specs.Scale.{has_item, has_warehouse, has_district, has_stock, has_customer, item_ids, warehouse_ids, district_keys, stock_keys, customer_keys}
use Rattle.schema.proofs.KeyOrders.{orders_total, lines_total}
use Rattle.schema.proofs.OrderedParts.{entries-ordered}
use Rattle.schema.proofs.Places.{contains-dense}
use Rattle.schema.proofs.ScalePlaces.{length-item_ids, length-warehouse_ids, length-district_keys, length-stock_keys, length-customer_keys}
use Rattle.schema.proofs.EachRows.{keys_ascend}
use Rattle.dataset.specs.declared.loader.Loader.{Loader}
use Rattle.dataset.specs.declared.place.Place.{Place}
use Rattle.dataset.specs.Columns.{Table, Items, Warehouses, Districts, Stocks, Customers, Histories, Orders, NewOrders, Lines, sizes}
use Rattle.dataset.specs.Loading.{HasLoaded, HasRows}
use Rattle.dataset.specs.Payments.{Opens}
use Rattle.dataset.specs.Ranges.{InRange}
use Rattle.dataset.specs.declared.format.Format.{Format}
use Rattle.dataset.specs.declared.format.Format.TheVariants.{One, Two}
use Rattle.dataset.specs.Formats.{IsWithinFormat}
use Rattle.dataset.specs.Records.{AreRecordsIn, AreRecordsOfEither, AreSpelt, records}
use Rattle.dataset.specs.TableRow.{TableRow, rows_read}
use Rattle.dataset.proofs.AllRows.{all_rows, entries_at}
use Rattle.dataset.proofs.Contents.{entries_of, lines_of_format}
use Rattle.dataset.proofs.EachTable.{EntryOf}
use Rattle.dataset.proofs.Finished.{are_kept, lines_kept, paid, zip-split}
use Rattle.dataset.proofs.Keys.{AreScaleKeys, customers_of_scale, districts_of_scale, items_of_scale, sorted-district_keys, stocks_of_scale, warehouses_of_scale}
use Rattle.dataset.proofs.Payments.{payments_of, payments-opened}
use Rattle.dataset.proofs.TableEntries.{same_keys}
use Rattle.dataset.proofs.Tables.{dense}
use Rattle.dataset.proofs.Reported.{entries_in_all, format_reported, init-last, lines_in_all, orders_at, rows_reported, same_lists, scale_reported}

-- rows by the scale's keys make the table whose rows they are
record Makes {K X : Type 0} {R : K → K → Ordering} (m : FinMap R X) (ks : List K) (xs : List X) : Type 0 where
  even : length xs ≡ length ks
  table : from_entries {R = R} (zip ks xs) ≡ m

-- the keys of a table whose keys are the scale's
keys_are : {K X : Type 0} {R : K → K → Ordering} {has : K → Bool} {ks : List K} → AreScaleKeys R has ks → (m : FinMap R X)
    → ((q : K) → contains_key m q ≡ has q) → keys_of (entries m) ≡ ks
keys_are {K} {X} {R} {ks = ks} keys m known =
    let n : FinMap R K = from_entries (zip ks ks) in
    let same = same_keys keys.total keys.exact m n (λ q. known q ∙ sym (contains-dense keys.total keys.exact ks ks refl q ∙ keys.placed q)) in
    same ∙ ap keys_of (dense keys ks refl) ∙ firsts-zip ks ks refl

makes : {K X : Type 0} {R : K → K → Ordering} {has : K → Bool} {ks : List K} {m : FinMap R X} {es : List (K × X)} {xs : List X} → AreScaleKeys R has ks
    → ((q : K) → contains_key m q ≡ has q) → es ≡ entries m → values_of es ≡ xs → Makes m ks xs
makes {ks = ks} {m = m} {xs = xs} keys known same are =
    let all_keys = keys_are keys m known in
    let rows : values_of (entries m) ≡ xs = ap values_of (sym same) ∙ are in
    let even : length xs ≡ length ks =
    ap length (sym rows) ∙ length-map (entries m) (λ e. e.1) ∙ sym (length-map (entries m) (λ e. e.0)) ∙ ap length all_keys in
    let split : entries m ≡ zip ks xs = zip-split (entries m) ∙ ap (λ l. zip l (values_of (entries m))) all_keys ∙ ap (zip ks) rows in
    record { even = even; table = same_entries_map (from_entries (zip ks xs)) m (dense keys xs even ∙ sym split) }

ordered_is : {K X : Type 0} {R : K → K → Ordering} → IsTotalOrder R → (m : FinMap R X) (rows : List (K × X)) → rows ≡ entries m → from_entries {R = R} rows ≡ m
ordered_is {R = R} o m rows same =
    same_entries_map (from_entries rows) m (entries-ordered o rows (subst (λ l. IsStrictlySortedBy R (keys_of l)) (sym same) (keys_ascend _ m)) ∙ same)

-- ---- all tables

module _ (format : Format) (scale : Scale) (has opened : TableRows) (last : Place) (records : List (List (List ℕ))) (rows : List TableRow) (h : HasRows format scale has last records rows)
    (opens : Opens (scale.warehouses * 10) has.histories.items opened.histories.items) (t : Database) (w : IsWithinScale t) (same_scale : scale ≡ t.scale) (all : rows ≡ all_rows format t) where
  of_scale : {A : Type 0} (f : Scale → A) → f t.scale ≡ f scale
  of_scale f = ap f (sym same_scale)

  entries_reported : (table : Table) → entries_of table rows ≡ entries_at format table t
  entries_reported table = ap (entries_of table) all ∙ entries_in_all format t table

  items : Makes t.items (item_ids scale) has.items.items
  items = makes (items_of_scale scale) (λ q. w.items q ∙ of_scale (λ s. has_item s q)) (entries_reported Items) (are_kept h Items)

  warehouses : Makes t.warehouses (warehouse_ids scale) has.warehouses.items
  warehouses = makes (warehouses_of_scale scale) (λ q. w.warehouses q ∙ of_scale (λ s. has_warehouse s q)) (entries_reported Warehouses) (are_kept h Warehouses)

  districts : Makes t.districts (district_keys scale) has.districts.items
  districts = makes (districts_of_scale scale) (λ q. w.districts q ∙ of_scale (λ s. has_district s q)) (entries_reported Districts) (are_kept h Districts)

  stocks : Makes t.stocks (stock_keys scale) has.stocks.items
  stocks = makes (stocks_of_scale scale) (λ q. w.stocks q ∙ of_scale (λ s. has_stock s q)) (entries_reported Stocks) (are_kept h Stocks)

  customers : Makes t.customers (customer_keys scale) has.customers.items
  customers = makes (customers_of_scale scale) (λ q. w.customers q ∙ of_scale (λ s. has_customer s q)) (entries_reported Customers) (are_kept h Customers)

  -- the lists of payments
  lists_opened : length opened.histories.items ≡ scale.warehouses * 10
  lists_opened = let few = (paid h).few in opens.enough (omega (arith, length-district_keys scale, few))

  lists_even : length opened.histories.items ≡ length (district_keys scale)
  lists_even = lists_opened ∙ sym (length-district_keys scale)

  same_histories : zip (district_keys scale) opened.histories.items ≡ entries t.histories
  same_histories =
      let ks = district_keys scale in
      let lists = opened.histories.items in
      let payments : payments_of (zip ks lists) ≡ payments_of (entries t.histories) =
      ap (λ ls. payments_of (zip ks ls)) opens.more ∙ payments-opened ks has.histories.items opens.opened opens.are_empty ∙ are_kept h Histories
      ∙ entries_reported Histories in
      let keys = firsts-zip ks lists lists_even in
      let all_keys = keys_are (districts_of_scale scale) t.histories (λ q. w.histories q ∙ of_scale (λ s. has_district s q)) in
      same_lists (zip ks lists) (entries t.histories) (keys ∙ sym all_keys)
      (subst (IsStrictlySortedBy district_cmp) (sym keys) (sorted-district_keys scale)) payments

  makes_tables : database scale (record has { histories = opened.histories }) ≡ t
  makes_tables =
      let lists = opened.histories.items in
      let histories =
      same_entries_map (from_entries (zip (district_keys scale) lists)) t.histories (dense (districts_of_scale scale) lists lists_even ∙ same_histories) in
      let orders = ordered_is orders_total t.orders has.orders.entries (are_kept h Orders ∙ ap (map (λ (e : EntryOf Orders). (e.0, e.1.0))) (entries_reported Orders) ∙ orders_at format t) in
      let new_orders = ordered_is orders_total t.new_orders has.new_orders.entries (are_kept h NewOrders ∙ entries_reported NewOrders) in
      let lines = ordered_is lines_total t.lines has.lines (lines_kept h ∙ ap (lines_of_format format) all ∙ lines_in_all format t w) in
      λ i. record {
        scale = same_scale i;
        items = items.table i;
        warehouses = warehouses.table i;
        districts = districts.table i;
        stocks = stocks.table i;
        customers = customers.table i;
        histories = histories i;
        orders = orders i;
        new_orders = new_orders i;
        lines = lines i;
      }

  fits_scale : FitsScale scale (record has { histories = opened.histories })
  fits_scale =
      let counts : HasCounts scale (record has { histories = opened.histories }) = record {
        items = items.even ∙ length-item_ids scale;
        warehouses = warehouses.even ∙ length-warehouse_ids scale;
        districts = districts.even ∙ length-district_keys scale;
        stocks = stocks.even ∙ length-stock_keys scale;
        customers = customers.even ∙ length-customer_keys scale;
        histories = lists_opened;
      } in
      record { counts = counts; within = subst IsWithinScale (sym makes_tables) w }

-- records after those that were loaded are of the loader's format
of_format : (format : Format) (l : Loader) (read : List (List (List ℕ))) (end : List (List ℕ)) (t : Database) → HasLoaded l read → AreRecordsIn format t (read ++ (end ∷ [])) → AreRecordsIn l.format t (read ++ (end ∷ []))
unfolding AreRecordsIn records
of_format format l read end t h are =
    let spelt = subst (λ r. AllZip AreSpelt (records format t) (r ++ (end ∷ []))) h.are are.1 in
    let same = format_reported format l.format t.scale l.scale h.header spelt.0 h.is_header.is_spelt in
    subst (λ f. IsWithinFormat f t × AllZip AreSpelt (records f t) (read ++ (end ∷ []))) same are

-- the rows that were loaded fit the scale, where tables have the records that were read
pub loaded_fits : (l : Loader) (opened : TableRows) (read : List (List (List ℕ))) (end : List (List ℕ)) (t : Database) → Opens (l.scale.warehouses * 10) l.rows.histories.items opened.histories.items
    → IsWithinScale t → InRange t → HasLoaded l read → AreRecordsIn l.format t (read ++ (end ∷ [])) → FitsScale l.scale (record l.rows { histories = opened.histories })
loaded_fits l opened read end t opens w range h are =
    let reported = rows_reported l.format t w range h.header (h.records ++ (end ∷ [])) (subst (λ r. AreRecordsIn l.format t (r ++ (end ∷ []))) h.are are) in
    let same = scale_reported l.format l.format l.scale t.scale h.header h.is_header.is_spelt reported.0 in
    let all = ap (λ (s : Scale). rows_read (sizes l.format s) h.records) same ∙ ap (rows_read (sizes l.format t.scale)) (sym (init-last h.records end)) ∙ reported.1 in
    fits_scale l.format l.scale l.rows opened l.last h.records (rows_read (sizes l.format l.scale) h.records) h.rows opens t w same all

-- the same where the records are of either format, since their header is that of the loader
pub either_fits : (l : Loader) (opened : TableRows) (read : List (List (List ℕ))) (end : List (List ℕ)) (t : Database) → Opens (l.scale.warehouses * 10) l.rows.histories.items opened.histories.items
    → IsWithinScale t → InRange t → HasLoaded l read → AreRecordsOfEither t (read ++ (end ∷ [])) → FitsScale l.scale (record l.rows { histories = opened.histories })
either_fits l opened read end t opens w range h (inl are) = loaded_fits l opened read end t opens w range h (of_format One l read end t h are)
either_fits l opened read end t opens w range h (inr are) = loaded_fits l opened read end t opens w range h (of_format Two l read end t h are)
