-- The rows of all tables, table by table: their records, that they come in order, and that they fit.
use Rattle.std.proofs.Common.{◌≡◌, ◌≤◌, ℕ, Bool, true, ◌&&◌, nat_lt, List, [], ◌∷◌, ◌++◌, map, Some, IsTrue, is_some, refl, sym, ap, subst, ◌∙◌, arith}
use Rattle.std.specs.List.{AllByRecursion, flat_map, list_all}
use Rattle.std.specs.List.Sorted.{IsStrictlySortedBy}
use Rattle.std.specs.Map.{keys_of, values_of}
use Rattle.std.specs.declared.cmp.Ordering.TheVariants.{Less}
use Rattle.std.specs.Cmp.{nat_cmp_total}
use Rattle.std.specs.FinMap.{entries, get}
use Rattle.std.proofs.lemmas.List.{map-append}
use Rattle.std.proofs.lemmas.Bool.Decides.{nat_tests}
use Rattle.std.proofs.lemmas.Bool.{and_parts}
use Rattle.rows.specs.declared.keys.DistrictKey.{DistrictKey}
use Rattle.rows.specs.declared.keys.OrderKey.{OrderKey}
use Rattle.rows.specs.declared.records.History.{History}
use Rattle.rows.specs.declared.keys.OrderLineKey.{OrderLineKey}
use Rattle.rows.specs.declared.limits.TheConstants.{LAST_LINE, MOST_LINES}
use Rattle.rows.specs.declared.records.Order.{Order}
use Rattle.rows.specs.declared.records.OrderLine.{OrderLine}
use Rattle.rows.specs.Keys.{district_cmp, order_cmp, line_cmp, order_of_line}
use Rattle.schema.specs.declared.scale.Scale.{Scale}
use Rattle.schema.specs.Scale.{has_district}
use Rattle.schema.specs.Consistency.{lines_of}
use Rattle.schema.specs.Database.{Database, IsWithinScale, are_payers_known, is_of_order}
use Rattle.schema.proofs.KeyOrders.{districts_total, stocks_total, customers_total, orders_total, lines_total}
use Rattle.schema.proofs.EachRows.{keys_ascend}
use Rattle.dataset.specs.declared.format.Format.{Format}
use Rattle.dataset.specs.declared.format.Format.TheVariants.{One, Two}
use Rattle.dataset.specs.Formats.{IsWithinFormat, most_lines}
use Rattle.dataset.specs.Columns.{Table, Items, Warehouses, Districts, Stocks, Customers, Histories, Orders, NewOrders, Lines, table_number}
use Rattle.dataset.specs.Order.{follows}
use Rattle.dataset.specs.declared.place.Place.TheVariants as at
use Rattle.dataset.specs.Ranges.{InRange, ItemInRange, WarehouseInRange, DistrictInRange, StockInRange, CustomerInRange, HistoryInRange, OrderInRange, LineInRange, IsFrom, IsOrder, IsOrderKey, IsLine, IsLineKey}
use Rattle.dataset.specs.Records.{Field, line_records, lines_in_order, order_record, records_by_table, row_records}
use Rattle.dataset.specs.TableRow.{TableRow, OfItem, OfHistory, AreLinesOf, LineFits, RowFits, row_fields, row_place}
use Rattle.dataset.specs.Loading.{AreInOrder}
use Rattle.dataset.proofs.Bounds.{bounds}
use Rattle.dataset.proofs.Keys.{all-append, all-each, all-flat_map, all-map, all-weaker}
use Rattle.dataset.proofs.EachTable.{EntryOf, RowOf, all_tables, cmp_of, make, number_made, number_of_row, same_place}
use Rattle.dataset.proofs.OrderLines.{AreOf, all-filter, few_rising, known_order, of_order_is, order_known, rising, sorted-filter}
use Rattle.dataset.proofs.Order.{earlier_table, follows_less, place_itself, same_history}
use Rattle.dataset.proofs.Payments.{all-payments, payments_of, payments_recorded}
use Rattle.dataset.proofs.TableEntries.{all-both, all-of_values, each_entry}

-- ---- the rows

abbrev pub rows_of : (table : Table) → List (EntryOf table) → List TableRow
rows_of table es = map (make table) es

-- the lines that have records of their own
abbrev pub own_line_rows : Format → Database → List (EntryOf Lines)
own_line_rows One t = entries t.lines
own_line_rows Two t = []

-- Of what the rows of a table are made. Those of HISTORY are the payments of all lists, and those of ORDER have the lines of
-- their records.
abbrev pub entries_at : Format → (table : Table) → Database → List (EntryOf table)
entries_at format Items t = entries t.items
entries_at format Warehouses t = entries t.warehouses
entries_at format Districts t = entries t.districts
entries_at format Stocks t = entries t.stocks
entries_at format Customers t = entries t.customers
entries_at format Histories t = payments_of (entries t.histories)
entries_at format Orders t = map (λ e. (e.0, (e.1, lines_in_order format t e.0))) (entries t.orders)
entries_at format NewOrders t = entries t.new_orders
entries_at format Lines t = own_line_rows format t

abbrev pub rows_at : Format → Database → Table → List TableRow
rows_at format t table = rows_of table (entries_at format table t)

unfoldable pub all_rows : Format → Database → List TableRow
all_rows format t = flat_map (rows_at format t) all_tables

-- ---- their records

-- the records of all rows
abbrev pub all_records : Format → Database → List (List Field)
all_records format t = flat_map (λ records. records) (records_by_table format t)

abbrev pub entry_records : (table : Table) → List (EntryOf table) → List (List Field)
entry_records table es = map (λ e. row_fields (make table e)) es

pub fields_of_rows : (table : Table) (es : List (EntryOf table)) → map row_fields (rows_of table es) ≡ entry_records table es
fields_of_rows table [] = refl
fields_of_rows table (e ∷ es) = ap (λ l. row_fields (make table e) ∷ l) (fields_of_rows table es)

pub map-flat_map : {X Y Z : Type 0} (f : Y → Z) (g : X → List Y) (xs : List X) → map f (flat_map g xs) ≡ flat_map (λ x. map f (g x)) xs
map-flat_map f g [] = refl
map-flat_map f g (x ∷ xs) = map-append f (g x) (flat_map g xs) ∙ ap (λ l. map f (g x) ++ l) (map-flat_map f g xs)

orders_recorded : (format : Format) (t : Database) (es : List (OrderKey × Order))
    → entry_records Orders (map (λ e. (e.0, (e.1, lines_in_order format t e.0))) es) ≡ row_records (λ key row. order_record key row (lines_in_order format t key)) es
orders_recorded format t [] = refl
orders_recorded format t (e ∷ es) = ap (λ l. order_record e.0 e.1 (lines_in_order format t e.0) ∷ l) (orders_recorded format t es)

lines_recorded : (format : Format) (t : Database) → entry_records Lines (own_line_rows format t) ≡ line_records format t
lines_recorded One t = refl
lines_recorded Two t = refl

pub records_of_rows : (format : Format) (t : Database) → map row_fields (all_rows format t) ≡ all_records format t
unfolding all_rows records_by_table
records_of_rows format t =
    map-flat_map row_fields (rows_at format t) all_tables ∙ (λ i. flat_map (λ table. fields_of_rows table (entries_at format table t) i) all_tables)
    ∙ rw (payments_recorded, orders_recorded format t (entries t.orders), lines_recorded format t) refl

-- ---- their order

in_order-append : (xs ys : List TableRow) → AreInOrder xs → AreInOrder ys
    → AllByRecursion (λ x. AllByRecursion (λ y. IsTrue (follows (row_place y) (row_place x))) ys) xs → AreInOrder (xs ++ ys)
in_order-append [] ys h g below = g
in_order-append (x ∷ xs) ys h g below = (all-append _ xs ys h.0 below.0, in_order-append xs ys h.1 g below.1)

table_in_order : (table : Table) (es : List (EntryOf table)) → IsStrictlySortedBy (cmp_of table) (keys_of es) → AreInOrder (rows_of table es)
unfolding IsStrictlySortedBy
table_in_order table [] sorted = tt
table_in_order table (e ∷ es) sorted = (all-map _ (make table) es (later es sorted.0), table_in_order table es sorted.1)
  where
    later : (ds : List (EntryOf table)) → AllByRecursion (λ k. cmp_of table e.0 k ≡ Less) (keys_of ds)
        → AllByRecursion (λ d. IsTrue (follows (row_place (make table d)) (row_place (make table e)))) ds
    later [] h = tt
    later (d ∷ ds) h = (follows_less (row_place (make table d)) (row_place (make table e)) (same_place table e d ∙ h.0), later ds h.1)

-- the payments of a district come before those of later districts
paid_in_order : (es : List (DistrictKey × List History)) → IsStrictlySortedBy district_cmp (keys_of es) → AreInOrder (rows_of Histories (payments_of es))
unfolding IsStrictlySortedBy
paid_in_order [] sorted = tt
paid_in_order (e ∷ es) sorted = by (paid_in_order es sorted.1) e.1
  where
    Later : DistrictKey → Type 0
    Later key = IsTrue (follows (at.History key) (at.History e.0))

    later : AllByRecursion (λ (p : DistrictKey × History). Later p.0) (payments_of es)
    later = all-payments Later es (all-weaker _ _ (λ k less. follows_less (at.History k) (at.History e.0) (same_history e.0 k ∙ less)) (keys_of es) sorted.0)

    by : AreInOrder (rows_of Histories (payments_of es)) → (rows : List History)
        → AreInOrder (rows_of Histories (map (λ row. (e.0, row)) rows ++ payments_of es))
    by rest [] = rest
    by rest (row ∷ rows) =
        let own = all-map (λ (p : DistrictKey × History). Later p.0) (λ row. (e.0, row)) rows (all-each _ (λ _. place_itself (at.History e.0)) rows) in
        (all-map _ (make Histories) (map (λ row. (e.0, row)) rows ++ payments_of es) (all-append _ _ _ own later), by rest rows)

abbrev come_later : ℕ → List Table → Bool
come_later n tables = list_all (λ table. nat_lt n (table_number table)) tables

abbrev ascend : List Table → Bool
ascend [] = true
ascend (table ∷ tables) = come_later (table_number table) tables && ascend tables

keys-with_lines : (format : Format) (t : Database) (es : List (OrderKey × Order)) → keys_of {X = RowOf Orders} (map (λ e. (e.0, (e.1, lines_in_order format t e.0))) es) ≡ keys_of es
keys-with_lines format t [] = refl
keys-with_lines format t (e ∷ es) = ap (λ l. e.0 ∷ l) (keys-with_lines format t es)

line_rows_in_order : (format : Format) (t : Database) → AreInOrder (rows_of Lines (own_line_rows format t))
line_rows_in_order One t = table_in_order Lines (entries t.lines) (keys_ascend _ t.lines)
line_rows_in_order Two t = tt

module _ (format : Format) (t : Database) where
  table_rows_in_order : (table : Table) → AreInOrder (rows_at format t table)
  table_rows_in_order Items = table_in_order Items (entries t.items) (keys_ascend _ t.items)
  table_rows_in_order Warehouses = table_in_order Warehouses (entries t.warehouses) (keys_ascend _ t.warehouses)
  table_rows_in_order Districts = table_in_order Districts (entries t.districts) (keys_ascend _ t.districts)
  table_rows_in_order Stocks = table_in_order Stocks (entries t.stocks) (keys_ascend _ t.stocks)
  table_rows_in_order Customers = table_in_order Customers (entries t.customers) (keys_ascend _ t.customers)
  table_rows_in_order Histories = paid_in_order (entries t.histories) (keys_ascend _ t.histories)
  table_rows_in_order Orders =
      table_in_order Orders (entries_at format Orders t) (subst (IsStrictlySortedBy order_cmp) (sym (keys-with_lines format t (entries t.orders))) (keys_ascend _ t.orders))
  table_rows_in_order NewOrders = table_in_order NewOrders (entries t.new_orders) (keys_ascend _ t.new_orders)
  table_rows_in_order Lines = line_rows_in_order format t

  -- the rows of later tables follow a row
  tables_follow : (row : TableRow) (tables : List Table) → IsTrue (come_later (number_of_row row) tables)
      → AllByRecursion (λ later. IsTrue (follows (row_place later) (row_place row))) (flat_map (rows_at format t) tables)
  tables_follow row [] h = tt
  tables_follow row (table ∷ tables) h =
      let tests = and_parts _ _ h in
      let below : IsTrue (nat_lt (number_of_row row) (table_number table)) = tests.0 in
      let each : (e : EntryOf table) → IsTrue (follows (row_place (make table e)) (row_place row)) = λ e.
      earlier_table (row_place row) (row_place (make table e)) (let number = number_made table e in grind (arith, nat_tests, below, number)) in
      all-append _ (rows_at format t table) (flat_map (rows_at format t) tables) (all-map _ (make table) (entries_at format table t) (all-each _ each (entries_at format table t)))
      (tables_follow row tables tests.1)

  tables_in_order : (tables : List Table) → IsTrue (ascend tables) → AreInOrder (flat_map (rows_at format t) tables)
  tables_in_order [] h = tt
  tables_in_order (table ∷ tables) h =
      let tests = and_parts _ _ h in
      let each = λ (e : EntryOf table). tables_follow (make table e) tables (subst (λ n. IsTrue (come_later n tables)) (sym (number_made table e)) tests.0) in
      in_order-append (rows_at format t table) (flat_map (rows_at format t) tables) (table_rows_in_order table) (tables_in_order tables tests.1)
      (all-map _ (make table) (entries_at format table t) (all-each _ each (entries_at format table t)))

  pub rows_in_order : AreInOrder (all_rows format t)
  unfolding all_rows
  rows_in_order = tables_in_order all_tables refl

-- ---- that they fit

list_fits : (format : Format) (scale : Scale) (home : DistrictKey) → IsTrue (has_district scale home) → (rows : List History) → IsTrue (are_payers_known scale rows)
    → AllByRecursion HistoryInRange rows → AllByRecursion (λ (p : DistrictKey × History). RowFits format scale (OfHistory p.0 p.1)) (map (λ row. (home, row)) rows)
list_fits format scale home there [] known range = tt
list_fits format scale home there (row ∷ rows) known range =
    let tests = and_parts _ _ known in
    ((there, record { payer = tests.0; in_range = range.0 }), list_fits format scale home there rows tests.1 range.1)

all-of_keys : {K X : Type 0} (P : K → Type 0) (es : List (K × X)) → AllByRecursion P (keys_of es) → AllByRecursion (λ e. P e.0) es
all-of_keys P [] h = tt
all-of_keys P (e ∷ es) h = (h.0, all-of_keys P es h.1)

-- the orders of tables within a format have no more lines than it allows
few_in_orders : (format : Format) (t : Database) → IsWithinFormat format t → InRange t → AllByRecursion (λ row. row.ol_cnt ≤ most_lines format) (values_of (entries t.orders))
few_in_orders One t f h = f.orders
few_in_orders Two t f h = all-weaker _ _ (λ row range. range.ol_cnt.1) (values_of (entries t.orders)) h.orders

module _ (t : Database) (w : IsWithinScale t) (h : InRange t) where
  line_key_fits : (e : OrderLineKey × OrderLine) → get t.lines e.0 ≡ Some e.1 → IsLineKey t.scale e.0
  line_key_fits e found = record { order = known_order t w (order_of_line e.0) (w.lines_have_orders e.0 e.1 found); number = w.lines_numbered e.0 e.1 found }

  line_fits : (e : OrderLineKey × OrderLine) → get t.lines e.0 ≡ Some e.1 → LineInRange e.1 → IsLine t.scale e.1
  line_fits e found range = record { item = w.lines_have_items e.0 e.1 found; supplier = w.lines_have_suppliers e.0 e.1 found; in_range = range }

  all_lines_fit : AllByRecursion (LineFits t.scale) (entries t.lines)
  all_lines_fit = each_entry LineInRange lines_total t.lines h.lines (λ e found range. (line_key_fits e found, line_fits e found range))

  -- the lines of an order fit
  lines_of_order_fit : (key : OrderKey) → AllByRecursion (LineFits t.scale) (lines_of t key)
  lines_of_order_fit key = all-filter _ _ _ (λ e own fit. fit) (entries t.lines) all_lines_fit

  -- and are as format 2 has them
  own_lines : (key : OrderKey) → AreLinesOf Two key (lines_of t key)
  own_lines key =
      let numbers : AllByRecursion (λ (e : OrderLineKey × OrderLine). IsFrom 1 LAST_LINE e.0.number) (lines_of t key) =
      all-weaker _ _ (λ e f. bounds 1 LAST_LINE e.0.number f.0.number) (lines_of t key) (lines_of_order_fit key) in
      let own : AreOf key (lines_of t key) = all-filter _ _ _ (λ e own fit. of_order_is key e.0 own) (entries t.lines) all_lines_fit in
      let rise =
      rising key 0 (lines_of t key) own (sorted-filter line_cmp (is_of_order key) (entries t.lines) (keys_ascend _ t.lines))
      (all-weaker _ _ (λ e n. let least = n.0 in omega (arith, least)) (lines_of t key) numbers) in
      let few = few_rising 0 MOST_LINES (lines_of t key) rise (all-weaker _ _ (λ e n. let most = n.1 in omega (arith, most)) (lines_of t key) numbers) in
      (own, rise, omega (arith, few))

  lines_in_order_fit : (format : Format) (key : OrderKey) → AreLinesOf format key (lines_in_order format t key) × AllByRecursion (LineFits t.scale) (lines_in_order format t key)
  lines_in_order_fit One key = (refl, tt)
  lines_in_order_fit Two key = (own_lines key, lines_of_order_fit key)

  orders_fit : (format : Format) → IsWithinFormat format t → AllByRecursion (λ e. RowFits format t.scale (make Orders e)) (entries_at format Orders t)
  orders_fit format f =
      all-map (λ e. RowFits format t.scale (make Orders e)) (λ e. (e.0, (e.1, lines_in_order format t e.0))) (entries t.orders)
      (all-both (λ e. IsOrderKey t.scale e.0 × IsOrder t.scale e.1) _ _ (λ e fits few. let lines = lines_in_order_fit format e.0 in ((few, lines.0), (fits.0, fits.1, lines.1))) (entries t.orders)
      (each_entry OrderInRange orders_total t.orders h.orders (λ e found range.
      let known = order_known t w e.0 e.1 (w.orders_numbered e.0 e.1 found) (w.orders_have_customers e.0 e.1 found) in
      let row : IsOrder t.scale e.1 = record { c_id = known.1; in_range = range } in
      (known.0, row)))
      (all-of_values _ (entries t.orders) (few_in_orders format t f h)))

  line_rows_fit : (format : Format) → IsWithinFormat format t → AllByRecursion (λ e. RowFits format t.scale (make Lines e)) (own_line_rows format t)
  line_rows_fit One f =
      all-both _ _ _ (λ e fits few. (few, fits)) (entries t.lines) all_lines_fit (all-of_keys _ (entries t.lines) f.lines)
  line_rows_fit Two f = tt

  entries_fit : (format : Format) → IsWithinFormat format t → (table : Table) → AllByRecursion (λ e. RowFits format t.scale (make table e)) (entries_at format table t)
  entries_fit format f Items = each_entry ItemInRange nat_cmp_total t.items h.items (λ e found range. (sym (w.items e.0) ∙ ap is_some found, range))
  entries_fit format f Warehouses = each_entry WarehouseInRange nat_cmp_total t.warehouses h.warehouses (λ e found range. (sym (w.warehouses e.0) ∙ ap is_some found, range))
  entries_fit format f Districts = each_entry DistrictInRange districts_total t.districts h.districts (λ e found range. (sym (w.districts e.0) ∙ ap is_some found, range))
  entries_fit format f Stocks = each_entry StockInRange stocks_total t.stocks h.stocks (λ e found range. (sym (w.stocks e.0) ∙ ap is_some found, range))
  entries_fit format f Customers = each_entry CustomerInRange customers_total t.customers h.customers (λ e found range. (sym (w.customers e.0) ∙ ap is_some found, range))
  entries_fit format f Histories =
      all-flat_map _ _ (entries t.histories) (each_entry (AllByRecursion HistoryInRange) districts_total t.histories h.histories (λ e found range.
      list_fits format t.scale e.0 (sym (w.histories e.0) ∙ ap is_some found) e.1 (w.payers_known e.0 e.1 found) range))
  entries_fit format f Orders = orders_fit format f
  entries_fit format f NewOrders =
      each_entry (λ _. Unit {0}) orders_total t.new_orders (all-each _ (λ _. tt) (values_of (entries t.new_orders))) (λ e found _.
      (tt, known_order t w e.0 (w.new_orders_have_orders e.0 e.1 found)))
  entries_fit format f Lines = line_rows_fit format f

pub rows_fit : (format : Format) (t : Database) → IsWithinFormat format t → IsWithinScale t → InRange t → AllByRecursion (RowFits format t.scale) (all_rows format t)
unfolding all_rows
rows_fit format t f w h =
    all-flat_map _ (rows_at format t) all_tables
    (all-each _ (λ table. all-map (RowFits format t.scale) (make table) (entries_at format table t) (entries_fit t w h format f table)) all_tables)

-- every row follows the header
pub after_header : (rows : List TableRow) → AllByRecursion (λ row. IsTrue (follows (row_place row) at.Header)) rows
after_header [] = tt
after_header (row ∷ rows) = (by row, after_header rows)
  where
    by : (row : TableRow) → IsTrue (follows (row_place row) at.Header)
    by (OfItem key row) = refl
    by row = refl
