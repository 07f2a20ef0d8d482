-- The tables of what was loaded in the end, and that they are those whose records were read.
use Rattle.std.proofs.Common.{◌≡◌, ℕ, suc, ◌≤◌, ◌*◌, ◌⊎◌, inl, inr, Bool, true, false, cond, List, [], ◌∷◌, ◌++◌, map, sum, length, Option, None, Some, IsTrue, is_some, Result, Ok, Err, IfOk, refl, sym, ap, subst, ◌∙◌, arith}
use Rattle.std.specs.Prelude.{◌↔◌, IsOk}
use Rattle.std.specs.List.{AllByRecursion, AllZip, filter, flat_map, zip}
use Rattle.std.specs.List.Sorted.{IsStrictlySortedBy}
use Rattle.std.specs.Map.{keys_of, values_of}
use Rattle.std.specs.Option.{option_map}
use Rattle.std.specs.Ordering.{eq_by_cmp}
use Rattle.std.specs.declared.cmp.Ordering.{Ordering}
use Rattle.std.specs.declared.cmp.Ordering.TheVariants.{Less, Equal}
use Rattle.std.specs.Cmp.{IsTotalOrder, Equal-is}
use Rattle.std.specs.FinMap.{IsAntisymmetric}
use Rattle.std.proofs.lemmas.Cmp.{tied_itself}
use Rattle.std.proofs.lemmas.List.{length-map}
use Rattle.rows.specs.declared.keys.DistrictKey.{DistrictKey}
use Rattle.rows.specs.declared.keys.OrderLineKey.{OrderLineKey}
use Rattle.rows.specs.declared.records.Order.{Order}
use Rattle.rows.specs.declared.records.OrderLine.{OrderLine}
use Rattle.rows.specs.declared.records.History.{History}
use Rattle.rows.specs.Keys.{order_cmp, line_cmp}
use Rattle.schema.specs.declared.scale.Scale.{Scale}
use Rattle.schema.specs.declared.scale_fault.ScaleFault.{ScaleFault}
use Rattle.schema.specs.declared.table_rows.TableRows.{TableRows}
use Rattle.schema.specs.Database.{Database, is_of_order, rows_where}
use Rattle.schema.specs.OrderRows.{line_table}
use Rattle.schema.proofs.OrderedParts.{entries-ordered}
use Rattle.schema.specs.Dense.{place}
use Rattle.schema.specs.Scale.{district_keys}
use Rattle.schema.specs.Rows.{database, HasCounts}
use Rattle.schema.proofs.KeyOrders.{orders_total, lines_total}
use Rattle.dataset.specs.declared.place.Place.{Place}
use Rattle.dataset.specs.declared.place.Place.TheVariants as at
use Rattle.dataset.specs.declared.format.Format.{Format}
use Rattle.dataset.specs.declared.format.Format.TheVariants.{One, Two}
use Rattle.dataset.specs.Formats.{IsWithinFormat, most_lines, most_warehouses}
use Rattle.dataset.specs.Columns.{Table, Items, Warehouses, Districts, Stocks, Customers, Histories, Orders, NewOrders, Lines, table_number}
use Rattle.dataset.specs.Payments.{Opens}
use Rattle.dataset.specs.Records.{Field, AreSpelt, AreRecordsIn, IsHeader, row_records, payment_records, header_fields, history_fields, line_fields, order_fields, order_record}
use Rattle.dataset.specs.Writing.{count_fields, records_with}
use Rattle.dataset.specs.Loading.{HasRows}
use Rattle.dataset.specs.TableRow.{TableRow, AddsRow, IsKnown, OfLine, row_fields, row_place}
use Rattle.dataset.proofs.AllRows.{after_header, entry_records, fields_of_rows, map-flat_map}
use Rattle.dataset.proofs.Contents.{Kept, PaysAll, Pushed, PutSome, all_entries, by_tables, entries_of, kept, keys-without_lines, keys_ascend, lines_are, lines_ascend, lines_of_format, new_orders_are, of_entries, of_table, orders_are, orders_own, paid_all, pushed, row_put}
use Rattle.dataset.proofs.EachTable.{EntryOf, KeyOf, RowOf, all_tables, cmp_of, get, is_keyed, make}
use Rattle.dataset.proofs.Keys.{AreScaleKeys, all-each, all-map, all-weaker, customers_of_scale, districts_of_scale, items_of_scale, stocks_of_scale, warehouses_of_scale}
use Rattle.dataset.proofs.Order.{follows_le}
use Rattle.std.specs.Ordering.{is_le}
use Rattle.dataset.specs.Order.{place_cmp}
use Rattle.dataset.proofs.Payments.{places, payments_of, payments_recorded, payments-opened, counts-opened}
use Rattle.dataset.proofs.OrderLines.{own_lines}
use Rattle.dataset.proofs.Tables.{are-records, lines_apart, orders_of, customer_count, district_count, item_count, rows_by_table, stock_count, warehouse_count}
use Rattle.dataset.proofs.Texts.{all_zip-append}

-- ---- as many keys of the scale as it has are all of them

pub Has : {K : Type 0} → K → List K → Type 0
Has x [] = ⊥
Has x (k ∷ ks) = (x ≡ k) ⊎ Has x ks

all-has : {K : Type 0} (P : K → Type 0) (ks : List K) (x : K) → AllByRecursion P ks → Has x ks → P x
unfolding Has
all-has P [] x h g = absurd g
all-has P (k ∷ ks) x h (inl e) = subst P (sym e) h.0
all-has P (k ∷ ks) x h (inr g) = all-has P ks x h.1 g

module _ {K : Type 0} {c : K → K → Ordering} (o : IsTotalOrder c) where
  less_not_itself : (x y : K) → x ≡ y → c x y ≡ Less → ⊥
  less_not_itself x y e h =
      let alike : c x y ≡ Equal = ap (c x) (sym e) ∙ tied_itself o x in
      let both : Less ≡ Equal = sym h ∙ alike in
      cc

  -- what is after a key of these is after the first
  not_first : (k : K) (ks : List K) (x y : K) → IsStrictlySortedBy c (k ∷ ks) → Has x (k ∷ ks) → c x y ≡ Less → Has y (k ∷ ks) → Has y ks
  unfolding IsStrictlySortedBy Has
  not_first k ks x y sorted g less (inr h) = h
  not_first k ks x y sorted (inl e) less (inl f) = absurd (less_not_itself x y (e ∙ sym f) less)
  not_first k ks x y sorted (inr g) less (inl f) =
      let first : c k x ≡ Less = all-has (λ j. c k j ≡ Less) ks x sorted.0 g in
      let around : c k y ≡ Less = o.trans k x y first less in
      absurd (less_not_itself k y (sym f) around)

  later_have : (k : K) (ks : List K) (x : K) → IsStrictlySortedBy c (k ∷ ks) → Has x (k ∷ ks) → (xs : List K) → AllByRecursion (λ y. c x y ≡ Less) xs → AllByRecursion (λ y. Has y (k ∷ ks)) xs
      → AllByRecursion (λ y. Has y ks) xs
  later_have k ks x sorted g [] less h = tt
  later_have k ks x sorted g (y ∷ xs) less h = (not_first k ks x y sorted g less.0 h.0, later_have k ks x sorted g xs less.1 h.1)

  no_more : (ks xs : List K) → IsStrictlySortedBy c ks → IsStrictlySortedBy c xs → AllByRecursion (λ y. Has y ks) xs → length xs ≤ length ks
  unfolding IsStrictlySortedBy Has
  no_more ks [] sorted ascend h = omega arith
  no_more [] (x ∷ xs) sorted ascend h = absurd h.0
  no_more (k ∷ ks) (x ∷ xs) sorted ascend h = let rest = no_more ks xs sorted.1 ascend.1 (later_have k ks x sorted h.0 xs ascend.0 h.1) in omega arith

  pub same_keys : (ks xs : List K) → IsStrictlySortedBy c ks → IsStrictlySortedBy c xs → AllByRecursion (λ y. Has y ks) xs → length xs ≡ length ks → xs ≡ ks
  unfolding IsStrictlySortedBy Has
  same_keys [] [] sorted ascend h even = refl
  same_keys [] (x ∷ xs) sorted ascend h even = absurd h.0
  same_keys (k ∷ ks) [] sorted ascend h even = absurd (omega arith)
  same_keys (k ∷ ks) (x ∷ xs) sorted ascend h even =
      let after = later_have k ks x sorted h.0 xs ascend.0 h.1 in
      let rest : xs ≡ ks = same_keys ks xs sorted.1 ascend.1 after (omega arith) in
      first_same k ks x xs h.0 (λ g. let many = no_more ks (x ∷ xs) sorted.1 ascend (g, after) in absurd (omega arith)) rest
    where
      first_same : (k : K) (ks : List K) (x : K) (xs : List K) → Has x (k ∷ ks) → (Has x ks → x ≡ k) → xs ≡ ks → x ∷ xs ≡ k ∷ ks
      first_same k ks x xs (inl e) f rest i = e i ∷ rest i
      first_same k ks x xs (inr g) f rest i = f g i ∷ rest i

  -- a key that has a place is one of them
  place_has : (ks : List K) (x : K) → IsAntisymmetric c → IsTrue (is_some (place (eq_by_cmp c x) ks)) → Has x ks
  unfolding Has
  place_has [] x exact h = absurd cc
  place_has (k ∷ ks) x exact h = by (place_has ks x exact) (eq_by_cmp c x k) refl (place (eq_by_cmp c x) ks) refl h
    where
      by : (IsTrue (is_some (place (eq_by_cmp c x) ks)) → Has x ks) → (b : Bool) → eq_by_cmp c x k ≡ b → (p : Option ℕ) → place (eq_by_cmp c x) ks ≡ p
          → IsTrue (is_some (cond b (Some 0) (option_map (λ m. suc m) p))) → (x ≡ k) ⊎ Has x ks
      by later true test p rest h = inl (exact x k ((Equal-is (c x k)).0 test))
      by later false test None rest h = absurd cc
      by later false test (Some m) rest h = inr (later (ap is_some rest))

pub zip-split : {K X : Type 0} (es : List (K × X)) → es ≡ zip (keys_of es) (values_of es)
zip-split [] = refl
zip-split (e ∷ es) = ap (λ l. e ∷ l) (zip-split es)

-- ---- what each table has

-- the rows that were added are those that are kept
abbrev pub AreKept : Scale → (table : Table) → List (EntryOf table) → Kept table → Type 0
AreKept scale Histories es lists = payments_of (zip (district_keys scale) lists) ≡ es
AreKept scale Orders es entries = entries ≡ map (λ e. (e.0, e.1.0)) es
AreKept scale NewOrders es entries = entries ≡ es
AreKept scale Lines es entries = Unit {0}
AreKept scale table es rows = values_of es ≡ rows

none_placed : (ks : List DistrictKey) → AllByRecursion (λ q. IsTrue (is_le (place_cmp q at.Header))) (places at.History (zip {X = List History} ks []))
none_placed [] = tt
none_placed (k ∷ ks) = tt

no_payments : (ks : List DistrictKey) → payments_of (zip ks []) ≡ []
no_payments [] = refl
no_payments (k ∷ ks) = refl

module _ {format : Format} {scale : Scale} {has : TableRows} {last : Place} {records : List (List (List ℕ))} {rows : List TableRow} (h : HasRows format scale has last records rows) where
  dense_has : (table : Table) (list : TableRows → List (RowOf table))
      → ((row : TableRow) (old mid : TableRows) → AddsRow scale row old mid → PutSome Pushed (get table row) (list old) (list mid))
      → list h.none ≡ [] → values_of (entries_of table rows) ≡ list has
  dense_has table list step none = sym (pushed table list scale step rows h.none has h.added ∙ ap (λ l. l ++ values_of (entries_of table rows)) none)

  -- of what the rows of a table are made of which no row is missing
  no_missing : (table : Table) {known : KeyOf table → Bool} {ks : List (KeyOf table)} {list : List (RowOf table)} → IsTrue (is_keyed table)
      → AreScaleKeys (cmp_of table) known ks → ((e : EntryOf table) → IsKnown format scale (make table e) → IsTrue (known e.0))
      → values_of (entries_of table rows) ≡ list → length list ≡ length ks → entries_of table rows ≡ zip ks list
  no_missing table {known} {ks} key keys has_key are even =
      let es = entries_of table rows in
      let all_known = all-map (λ k. IsTrue (known k)) (λ e. e.0) es (all-weaker _ _ has_key es (all_entries table (IsKnown format scale) rows h.known)) in
      let have = all-weaker _ _ (λ k is_known. place_has keys.total ks k keys.exact (keys.placed k ∙ is_known)) (keys_of es) all_known in
      let many : length (keys_of es) ≡ length ks = length-map es (λ e. e.0) ∙ sym (length-map es (λ e. e.1)) ∙ ap length are ∙ even in
      let all : keys_of es ≡ ks = same_keys keys.total ks (keys_of es) keys.sorted (keys_ascend table key rows h.in_order) have many in
      zip-split es ∙ ap (λ l. zip l (values_of es)) all ∙ ap (zip ks) are

  pub paid : PaysAll scale rows [] has.histories.items
  paid =
      let none = h.are_none.histories in
      let reached = subst (λ lists. AllByRecursion (λ q. IsTrue (is_le (place_cmp q at.Header))) (places at.History (zip (district_keys scale) lists))) (sym none) (none_placed (district_keys scale)) in
      let after = all-weaker _ _ (λ row follow. follows_le at.Header (row_place row) follow) rows (after_header rows) in
      let few : length h.none.histories.items ≤ length (district_keys scale) = let e = ap length none in omega (arith, e) in
      subst (λ lists. PaysAll scale rows lists has.histories.items) none (paid_all scale rows h.none has at.Header h.added h.in_order after reached few)

  pub are_kept : (table : Table) → AreKept scale table (entries_of table rows) (kept table has)
  are_kept Items = dense_has Items (kept Items) (row_put scale Items) h.are_none.items
  are_kept Warehouses = dense_has Warehouses (kept Warehouses) (row_put scale Warehouses) h.are_none.warehouses
  are_kept Districts = dense_has Districts (kept Districts) (row_put scale Districts) h.are_none.districts
  are_kept Stocks = dense_has Stocks (kept Stocks) (row_put scale Stocks) h.are_none.stocks
  are_kept Customers = dense_has Customers (kept Customers) (row_put scale Customers) h.are_none.customers
  are_kept Histories = paid.payments ∙ ap (λ l. l ++ entries_of Histories rows) (no_payments (district_keys scale))
  are_kept Orders = orders_are scale rows h.none has h.added h.in_order h.are_none.orders
  are_kept NewOrders = new_orders_are scale rows h.none has h.added h.in_order h.are_none.new_orders
  are_kept Lines = tt

  -- the lines of all rows are kept
  pub lines_kept : has.lines ≡ lines_of_format format rows
  lines_kept = lines_are scale rows h.none has h.added h.in_order format h.known h.are_none.lines

  pub lines_ascending : IsStrictlySortedBy line_cmp (keys_of has.lines)
  lines_ascending = subst (λ l. IsStrictlySortedBy line_cmp (keys_of l)) (sym lines_kept) (lines_ascend format scale rows h.known h.in_order)

  pub orders_ascending : IsStrictlySortedBy order_cmp (keys_of has.orders.entries)
  orders_ascending =
      subst (λ l. IsStrictlySortedBy order_cmp (keys_of l)) (sym (are_kept Orders))
      (subst (IsStrictlySortedBy order_cmp) (sym (keys-without_lines (entries_of Orders rows))) (keys_ascend Orders refl rows h.in_order))

-- ---- the records of all rows

part_recorded : (table : Table) (rows : List TableRow) → map row_fields (of_table (table_number table) rows) ≡ entry_records table (entries_of table rows)
part_recorded table rows = ap (map row_fields) (of_entries table rows) ∙ fields_of_rows table (entries_of table rows)

-- the records of orders without lines
orders_alone : (scale : Scale) (es : List (EntryOf Orders)) → AllByRecursion (λ (e : EntryOf Orders). IsKnown One scale (make Orders e)) es
    → entry_records Orders es ≡ row_records order_fields (map (λ e. (e.0, e.1.0)) es)
orders_alone scale [] known = refl
orders_alone scale (e ∷ es) known = λ i. order_record e.0 e.1.0 (known.0.1 i) ∷ orders_alone scale es known.1 i

-- the records of orders with lines
orders_together : (lines : List (OrderLineKey × OrderLine)) (es : List (EntryOf Orders))
    → entry_records Orders (map (λ e. (e.0, (e.1.0, rows_where (is_of_order e.0) (line_table lines)))) es) ≡ records_with lines (map (λ e. (e.0, e.1.0)) es)
orders_together lines [] = refl
orders_together lines (e ∷ es) = ap (λ l. order_record e.0 e.1.0 (rows_where (is_of_order e.0) (line_table lines)) ∷ l) (orders_together lines es)

-- the rows of a format are what each of its tables keeps
module _ {format : Format} {scale : Scale} {has : TableRows} {last : Place} {records : List (List (List ℕ))} {rows : List TableRow} (h : HasRows format scale has last records rows) where
  all_known : AllByRecursion (λ (e : EntryOf Orders). IsKnown format scale (make Orders e)) (entries_of Orders rows)
  all_known = all_entries Orders (IsKnown format scale) rows h.known

orders_recorded : (format : Format) {scale : Scale} {has : TableRows} {last : Place} {records : List (List (List ℕ))} {rows : List TableRow} → HasRows format scale has last records rows
    → entry_records Orders (entries_of Orders rows) ≡ orders_of format has.lines has.orders.entries
orders_recorded One {scale} {has} {rows = rows} h = orders_alone scale (entries_of Orders rows) (all_known h) ∙ ap (row_records order_fields) (sym (are_kept h Orders))
orders_recorded Two {scale} {has} {rows = rows} h =
    let es = entries_of Orders rows in
    let own = orders_own scale rows h.known in
    let lines : has.lines ≡ flat_map (λ (e : EntryOf Orders). e.1.1) es = lines_kept h in
    let each : (e : EntryOf Orders) → rows_where (is_of_order e.0) (line_table has.lines) ≡ filter (λ l. is_of_order e.0 l.0) has.lines = λ e.
    ap (filter (λ (l : OrderLineKey × OrderLine). is_of_order e.0 l.0)) (entries-ordered lines_total has.lines (lines_ascending h)) in
    let are : map (λ (e : EntryOf Orders). (e.0, (e.1.0, rows_where (is_of_order e.0) (line_table has.lines)))) es ≡ es =
    (λ i. map (λ (e : EntryOf Orders). (e.0, (e.1.0, (each e ∙ ap (filter (λ (l : OrderLineKey × OrderLine). is_of_order e.0 l.0)) lines) i))) es)
    ∙ own_lines es (keys_ascend Orders refl rows h.in_order) (all-weaker _ _ (λ e a. a.0) es own) in
    ap (entry_records Orders) (sym are) ∙ orders_together has.lines es ∙ ap (records_with has.lines) (sym (are_kept h Orders))

-- format 2 has no rows of ORDER-LINE of their own
no_line_rows : (scale : Scale) (rows : List TableRow) → AllByRecursion (IsKnown Two scale) rows → entries_of Lines rows ≡ []
no_line_rows scale [] known = refl
no_line_rows scale (OfLine key row ∷ rows) known = absurd known.0
no_line_rows scale (row ∷ rows) known = no_line_rows scale rows known.1

lines_recorded : (format : Format) {scale : Scale} {has : TableRows} {last : Place} {records : List (List (List ℕ))} {rows : List TableRow} → HasRows format scale has last records rows
    → entry_records Lines (entries_of Lines rows) ≡ lines_apart format has.lines
lines_recorded One h = ap (row_records line_fields) (sym (lines_kept h))
lines_recorded Two {scale} {rows = rows} h = ap (entry_records Lines) (no_line_rows scale rows h.known)

-- the tables that are made of the rows of format 1 are within its limits
orders_within : (scale : Scale) (es : List (EntryOf Orders)) → AllByRecursion (λ (e : EntryOf Orders). IsKnown One scale (make Orders e)) es
    → AllByRecursion (λ (row : Order). row.ol_cnt ≤ most_lines One) (values_of (map (λ (e : EntryOf Orders). (e.0, e.1.0)) es))
orders_within scale [] known = tt
orders_within scale (e ∷ es) known = (known.0.0, orders_within scale es known.1)

lines_within : (scale : Scale) (es : List (EntryOf Lines)) → AllByRecursion (λ (e : EntryOf Lines). IsKnown One scale (make Lines e)) es
    → AllByRecursion (λ (key : OrderLineKey). key.number ≤ most_lines One) (keys_of es)
lines_within scale [] known = tt
lines_within scale (e ∷ es) known = (known.0, lines_within scale es known.1)

within_format : (format : Format) {scale : Scale} {has : TableRows} (opened : TableRows) {last : Place} {records : List (List (List ℕ))} {rows : List TableRow} → HasRows format scale has last records rows
    → scale.warehouses ≤ most_warehouses format → IsWithinFormat format (database scale (record has { histories = opened.histories }))
within_format One {scale} {has} opened {rows = rows} h few = record {
  warehouses = few;
  orders = subst (λ es. AllByRecursion (λ (row : Order). row.ol_cnt ≤ most_lines One) (values_of es)) (sym (entries-ordered orders_total has.orders.entries (orders_ascending h) ∙ are_kept h Orders))
      (orders_within scale (entries_of Orders rows) (all_known h));
  lines = subst (λ es. AllByRecursion (λ (key : OrderLineKey). key.number ≤ most_lines One) (keys_of es)) (sym (entries-ordered lines_total has.lines (lines_ascending h) ∙ lines_kept h))
      (lines_within scale (entries_of Lines rows) (all_entries Lines (IsKnown One scale) rows h.known));
}
within_format Two opened h few = tt

module _ (format : Format) (scale : Scale) (has opened : TableRows) (last : Place) (records : List (List (List ℕ))) (rows : List TableRow) (h : HasRows format scale has last records rows)
    (opens : Opens (scale.warehouses * 10) has.histories.items opened.histories.items) (counts : HasCounts scale (record has { histories = opened.histories })) where
  rows_recorded : map row_fields rows ≡ flat_map (λ part. part) (rows_by_table format scale (record has { histories = opened.histories }))
  rows_recorded =
      let items = no_missing h Items refl (items_of_scale scale) (λ e known. known) (are_kept h Items) (item_count scale _ counts) in
      let warehouses = no_missing h Warehouses refl (warehouses_of_scale scale) (λ e known. known) (are_kept h Warehouses) (warehouse_count scale _ counts) in
      let districts = no_missing h Districts refl (districts_of_scale scale) (λ e known. known) (are_kept h Districts) (district_count scale _ counts) in
      let stocks = no_missing h Stocks refl (stocks_of_scale scale) (λ e known. known) (are_kept h Stocks) (stock_count scale _ counts) in
      let customers = no_missing h Customers refl (customers_of_scale scale) (λ e known. known) (are_kept h Customers) (customer_count scale _ counts) in
      let payments : entry_records Histories (entries_of Histories rows) ≡ payment_records (zip (district_keys scale) opened.histories.items) =
      ap (row_records history_fields) (sym (are_kept h Histories) ∙ sym (payments-opened (district_keys scale) has.histories.items opens.opened opens.are_empty)
      ∙ ap (λ lists. payments_of (zip (district_keys scale) lists)) (sym opens.more))
      ∙ payments_recorded (zip (district_keys scale) opened.histories.items) in
      let orders = orders_recorded format h in
      let lines = lines_recorded format h in
      ap (map row_fields) (by_tables rows h.in_order) ∙ map-flat_map row_fields (λ table. of_table (table_number table) rows) all_tables
      ∙ (λ i. flat_map (λ table. part_recorded table rows i) all_tables)
      ∙ ap (flat_map (λ part. part)) (λ i.
      entry_records Items (items i) ∷ entry_records Warehouses (warehouses i) ∷ entry_records Districts (districts i)
      ∷ entry_records Stocks (stocks i) ∷ entry_records Customers (customers i) ∷ payments i
      ∷ orders i ∷ entry_records NewOrders (sym (are_kept h NewOrders) i) ∷ lines i ∷ [])

  counts_opened : count_fields has ≡ count_fields (record has { histories = opened.histories })
  counts_opened =
      let paid : sum (map length has.histories.items) ≡ sum (map length opened.histories.items) =
      sym (counts-opened has.histories.items opens.opened opens.are_empty) ∙ ap (λ lists. sum (map length lists)) (sym opens.more) in
      rw paid refl

  pub all_recorded : (header end : List (List ℕ)) → IsHeader format scale header → AreSpelt (count_fields has) end
      → AreRecordsIn format (database scale (record has { histories = opened.histories })) ((header ∷ records) ++ (end ∷ []))
  all_recorded header end is_header counted =
      let rows_of_tables = record has { histories = opened.histories } in
      let last_ : AreSpelt (count_fields rows_of_tables) end = subst (λ fields. AreSpelt fields end) counts_opened counted in
      let body : AllZip AreSpelt (header_fields format scale ∷ flat_map (λ part. part) (rows_by_table format scale rows_of_tables)) (header ∷ records) =
      subst (λ fields. AllZip AreSpelt (header_fields format scale ∷ fields) (header ∷ records)) rows_recorded (is_header.is_spelt, h.are_spelt) in
      are-records scale rows_of_tables counts (orders_ascending h)
      (subst (λ es. IsStrictlySortedBy order_cmp (keys_of es)) (sym (are_kept h NewOrders)) (keys_ascend NewOrders refl rows h.in_order))
      (lines_ascending h) format (within_format format opened h is_header.within)
      ((header ∷ records) ++ (end ∷ []))
      (all_zip-append AreSpelt (header_fields format scale ∷ flat_map (λ part. part) (rows_by_table format scale rows_of_tables)) (count_fields rows_of_tables ∷ []) (header ∷ records) (end ∷ []) body (last_, tt))

-- of the tables that were made of rows that fit the scale
pub by_checked : (r : Result Database ScaleFault) (t : Database) (Fits : Type 0) (P : Database → Type 0) → IfOk r (λ made. made ≡ t) → (IsOk r ↔ Fits) → (Fits → P t) → IfOk r P
by_checked (Ok made) t Fits P is fits h = subst P (sym is) (h (fits.0 refl))
by_checked (Err fault) t Fits P is fits h = tt
