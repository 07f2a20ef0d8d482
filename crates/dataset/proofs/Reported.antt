-- Tables within their scale and the ranges of their columns are determined by their records, in each format.
use Rattle.std.proofs.Common.{◌≡◌, ◌==◌, ℕ, Bool, true, false, List, [], ◌∷◌, ◌++◌, map, codes, lit<, refl, sym, ap, subst, ◌∙◌, arith}
use Rattle.std.specs.Prelude.{if◌then◌else◌}
use Rattle.std.specs.List.{AllByRecursion, AllZip, flat_map}
use Rattle.std.specs.List.Sorted.{IsStrictlySortedBy}
use Rattle.std.specs.Map.{keys_of}
use Rattle.std.specs.declared.cmp.Ordering.TheVariants.{Less}
use Rattle.std.specs.FinMap.{entries, same_entries_map}
use Rattle.std.proofs.lemmas.Cmp.{tied_itself}
use Rattle.std.specs.Str.{bytes_eq}
use Rattle.std.proofs.lemmas.Fmt.{decimal_digit, decimal_injective}
use Rattle.std.proofs.lemmas.List.{append-nil}
use Rattle.std.proofs.lemmas.Slice.Zip.{AllZip-long}
use mathlib.Core.HLevel.{Σ_prop_path}
use native.Mathlib.Bridge.{le_prop}
use Rattle.rows.specs.declared.keys.DistrictKey.{DistrictKey}
use Rattle.rows.specs.declared.keys.OrderKey.{OrderKey}
use Rattle.rows.specs.declared.keys.OrderLineKey.{OrderLineKey}
use Rattle.rows.specs.declared.records.Order.{Order}
use Rattle.rows.specs.declared.records.OrderLine.{OrderLine}
use Rattle.schema.specs.Consistency.{lines_of}
use Rattle.rows.specs.declared.records.History.{History}
use Rattle.rows.specs.Keys.{district_cmp}
use Rattle.schema.specs.declared.scale.Scale.{Scale}
use Rattle.schema.specs.Limits.{IsScale}
use Rattle.schema.specs.Scale.{has_district}
use Rattle.schema.specs.Database.{Database, IsWithinScale}
use Rattle.schema.proofs.KeyOrders.{districts_total, districts_exact}
use Rattle.schema.proofs.EachRows.{keys_ascend}
use Rattle.dataset.specs.declared.format.Format.{Format}
use Rattle.dataset.specs.declared.format.Format.TheVariants.{One, Two}
use Rattle.dataset.specs.Formats.{IsWithinFormat}
use Rattle.dataset.specs.Columns.{Table, Items, Warehouses, Districts, Stocks, Customers, Histories, Orders, NewOrders, Lines, sizes, table_number}
use Rattle.dataset.specs.Ranges.{InRange}
use Rattle.dataset.specs.RecordLaws.{RecordsReportTables}
use Rattle.dataset.specs.Records.{IsSpelt, AreSpelt, AreRecordsIn, records, records_by_table, header_fields, end_fields, lines_in_order}
use Rattle.dataset.specs.TableRow.{TableRow, RowFits, kind_rows, record_rows, row_fields, rows_read}
use Rattle.dataset.proofs.AllRows.{all_records, all_rows, entries_at, records_of_rows, rows_at, rows_fit, rows_of}
use Rattle.dataset.proofs.Contents.{entries_of, lines_of_format, of_entries, of_table, with_row}
use Rattle.dataset.proofs.EachTable.{EntryOf, all_tables, get_made, make, number_made, number_of_row}
use Rattle.dataset.proofs.Keys.{all-weaker}
use Rattle.dataset.proofs.OrderLines.{lines_grouped}
use Rattle.dataset.proofs.Payments.{all-payments, payments_of}
use Rattle.dataset.proofs.RowFields.{row_reads}
use Rattle.dataset.proofs.TableEntries.{same_keys}

-- ---- what the rows of tables are read as

pub read_all : (format : Format) (scale : Scale) (rows : List TableRow) (texts : List (List (List ℕ))) → AllByRecursion (RowFits format scale) rows → AllZip AreSpelt (map row_fields rows) texts
    → rows_read (sizes format scale) texts ≡ rows
read_all format scale [] [] fit spelt = refl
read_all format scale [] (text ∷ texts) fit spelt = absurd spelt
read_all format scale (row ∷ rows) [] fit spelt = absurd spelt
read_all format scale (row ∷ rows) (text ∷ texts) fit spelt =
    let s = sizes format scale in
    let r = row_reads format scale row text fit.0 spelt.0 in
    let first : record_rows s text ≡ row ∷ [] =
    ap (record_rows s) r.are ∙ ap (λ k. kind_rows s k r.fields) r.is_kind ∙ ap (λ x. x ∷ []) r.is_row in
    ap (λ l. l ++ rows_read s texts) first ∙ ap (λ l. row ∷ l) (read_all format scale rows texts fit.1 spelt.1)

-- ---- what each table has of all rows

-- the rows of a table are all of it, or none is
of_part : (n : ℕ) (table : Table) (b : Bool) → (table_number table == n) ≡ b → (es : List (EntryOf table))
    → of_table n (rows_of table es) ≡ (if b then rows_of table es else [])
of_part n table true own [] = refl
of_part n table true own (e ∷ es) = rw (number_made table e, own) (ap (λ l. make table e ∷ l) (of_part n table true own es))
of_part n table false other [] = refl
of_part n table false other (e ∷ es) = rw (number_made table e, other) (of_part n table false other es)

of_append : (n : ℕ) (xs ys : List TableRow) → of_table n (xs ++ ys) ≡ of_table n xs ++ of_table n ys
of_append n [] ys = refl
of_append n (x ∷ xs) ys = ap (with_row (number_of_row x == n) x) (of_append n xs ys) ∙ front (number_of_row x == n) (of_table n xs)
  where
    front : (b : Bool) (rows : List TableRow) → with_row b x (rows ++ of_table n ys) ≡ with_row b x rows ++ of_table n ys
    front true rows = refl
    front false rows = refl

of_parts : (n : ℕ) (part : Table → List TableRow) (tables : List Table) → of_table n (flat_map part tables) ≡ flat_map (λ table. of_table n (part table)) tables
of_parts n part [] = refl
of_parts n part (table ∷ tables) = of_append n (part table) (flat_map part tables) ∙ ap (λ l. of_table n (part table) ++ l) (of_parts n part tables)

entries_made : (table : Table) (es : List (EntryOf table)) → entries_of table (rows_of table es) ≡ es
entries_made table [] = refl
entries_made table (e ∷ es) = rw (get_made table e) (ap (λ l. e ∷ l) (entries_made table es))

module _ (format : Format) (t : Database) where
  -- among all rows
  own_rows : (table : Table) → of_table (table_number table) (all_rows format t) ≡ rows_at format t table
  unfolding all_rows
  own_rows table =
      of_parts (table_number table) (rows_at format t) all_tables
      ∙ (λ i. flat_map (λ other. of_part (table_number table) other (table_number other == table_number table) refl (entries_at format other t) i) all_tables)
      ∙ only_one table
    where
      only_one : (table : Table) → flat_map (λ other. if table_number other == table_number table then rows_at format t other else []) all_tables ≡ rows_at format t table
      only_one Items = append-nil (rows_at format t Items)
      only_one table = append-nil (rows_at format t table)

  pub entries_in_all : (table : Table) → entries_of table (all_rows format t) ≡ entries_at format table t
  entries_in_all table =
      sym (entries_made table (entries_of table (all_rows format t))) ∙ ap (entries_of table) (sym (of_entries table (all_rows format t)) ∙ own_rows table)
      ∙ entries_made table (entries_at format table t)

-- ---- the payments of districts

-- two lists of payments of a district, each before those of others
split_paid : (home : DistrictKey) (xs ys : List History) (ps qs : List (DistrictKey × History)) → AllByRecursion (λ (p : DistrictKey × History). p.0 ≡ home → ⊥) ps → AllByRecursion (λ (p : DistrictKey × History). p.0 ≡ home → ⊥) qs
    → map (λ row. (home, row)) xs ++ ps ≡ map (λ row. (home, row)) ys ++ qs → (xs ≡ ys) × (ps ≡ qs)
split_paid home [] [] ps qs h g e = (refl, e)
split_paid home [] (y ∷ ys) [] qs h g e = absurd cc
split_paid home [] (y ∷ ys) (p ∷ ps) qs h g e = let first : ◌≡◌ {A = DistrictKey × History} p (home, y) = cc in absurd (h.0 (ap (λ (q : DistrictKey × History). q.0) first))
split_paid home (x ∷ xs) [] ps [] h g e = absurd cc
split_paid home (x ∷ xs) [] ps (q ∷ qs) h g e = let first : ◌≡◌ {A = DistrictKey × History} (home, x) q = cc in absurd (g.0 (sym (ap (λ (p : DistrictKey × History). p.0) first)))
split_paid home (x ∷ xs) (y ∷ ys) ps qs h g e =
    let pair : ◌≡◌ {A = DistrictKey × History} (home, x) (home, y) = cc in
    let first : x ≡ y = ap (λ (p : DistrictKey × History). p.1) pair in
    let tails : map (λ row. (home, row)) xs ++ ps ≡ map (λ row. (home, row)) ys ++ qs = cc in
    let rest = split_paid home xs ys ps qs h g tails in
    (λ i. first i ∷ rest.0 i, rest.1)

not_home : (home other : DistrictKey) → district_cmp home other ≡ Less → other ≡ home → ⊥
not_home home other less e = let same = ap (district_cmp home) e ∙ tied_itself districts_total home in let clash = sym less ∙ same in cc

not_later : (home : DistrictKey) (es : List (DistrictKey × List History)) → AllByRecursion (λ k. district_cmp home k ≡ Less) (keys_of es)
    → AllByRecursion (λ (p : DistrictKey × History). p.0 ≡ home → ⊥) (payments_of es)
not_later home es h = all-payments (λ k. k ≡ home → ⊥) es (all-weaker _ _ (λ k less. not_home home k less) (keys_of es) h)

-- the lists of the same districts are determined by their payments
pub same_lists : (es ds : List (DistrictKey × List History)) → keys_of es ≡ keys_of ds → IsStrictlySortedBy district_cmp (keys_of es) → payments_of es ≡ payments_of ds → es ≡ ds
unfolding IsStrictlySortedBy
same_lists [] [] keys sorted e = refl
same_lists [] (d ∷ ds) keys sorted e = absurd cc
same_lists (x ∷ es) [] keys sorted e = absurd cc
same_lists (x ∷ es) (d ∷ ds) keys sorted e =
    let key : x.0 ≡ d.0 = cc in
    let later : keys_of es ≡ keys_of ds = cc in
    let here : map (λ row. (x.0, row)) x.1 ++ payments_of es ≡ map (λ row. (x.0, row)) d.1 ++ payments_of ds = e ∙ ap (λ k. map (λ row. (k, row)) d.1 ++ payments_of ds) (sym key) in
    let parts = split_paid x.0 x.1 d.1 (payments_of es) (payments_of ds) (not_later x.0 es sorted.0) (not_later x.0 ds (subst (AllByRecursion (λ k. district_cmp x.0 k ≡ Less)) later sorted.0)) here in
    let rest = same_lists es ds later sorted.1 parts.1 in
    λ i. (key i, parts.0 i) ∷ rest i

-- ---- the scale

pub same_scale : (s r : Scale) → s.warehouses ≡ r.warehouses → s.items ≡ r.items → s.customers ≡ r.customers → s ≡ r
same_scale s r w i c =
    let pairs : ◌≡◌ {A = (p : ℕ × (ℕ × ℕ)) × IsScale p.0 p.1.0 p.1.1} ((s.warehouses, (s.items, s.customers)), s.limits) ((r.warehouses, (r.items, r.customers)), r.limits) =
    Σ_prop_path (λ p. hlevel le_prop) (λ n. (w n, (i n, c n))) in
    λ n. record { warehouses = (pairs n).0.0; items = (pairs n).0.1.0; customers = (pairs n).0.1.1; limits = (pairs n).1 }

-- the format and the scale of a header
pub format_reported : (f g : Format) (s r : Scale) (texts : List (List ℕ)) → AreSpelt (header_fields f s) texts → AreSpelt (header_fields g r) texts → f ≡ g
format_reported One One s r texts h g = refl
format_reported Two Two s r texts h g = refl
format_reported One Two s r (a ∷ b ∷ texts) h g =
    let clash : true ≡ false = ap (λ w. bytes_eq w (codes "1")) (sym (h.1.0 ∙ decimal_digit 1 (lit< tt)) ∙ g.1.0 ∙ decimal_digit 2 (lit< tt)) in cc
format_reported Two One s r (a ∷ b ∷ texts) h g =
    let clash : true ≡ false = ap (λ w. bytes_eq w (codes "2")) (sym (h.1.0 ∙ decimal_digit 2 (lit< tt)) ∙ g.1.0 ∙ decimal_digit 1 (lit< tt)) in cc
format_reported One Two s r [] h g = absurd h
format_reported One Two s r (a ∷ []) h g = absurd h.1
format_reported Two One s r [] h g = absurd h
format_reported Two One s r (a ∷ []) h g = absurd h.1

pub scale_reported : (f g : Format) (s r : Scale) (texts : List (List ℕ)) → AreSpelt (header_fields f s) texts → AreSpelt (header_fields g r) texts → s ≡ r
scale_reported f g s r (a ∷ b ∷ c ∷ d ∷ e ∷ []) h g_spelt =
    let limits = s.limits in
    let others = r.limits in
    let w = decimal_injective s.warehouses r.warehouses (omega (arith, limits.most_warehouses)) (omega (arith, others.most_warehouses)) (sym h.1.1.0 ∙ g_spelt.1.1.0) in
    let i = decimal_injective s.items r.items (omega (arith, limits.most_items)) (omega (arith, others.most_items)) (sym h.1.1.1.0 ∙ g_spelt.1.1.1.0) in
    let n = decimal_injective s.customers r.customers (omega (arith, limits.most_customers)) (omega (arith, others.most_customers)) (sym h.1.1.1.1.0 ∙ g_spelt.1.1.1.1.0) in
    same_scale s r w i n
scale_reported f g s r texts h g_spelt = let long = AllZip-long IsSpelt (header_fields f s) texts h in absurd (omega arith)

-- ---- all tables

-- all but the last
unfoldable pub init : {X : Type 0} → List X → List X
init [] = []
init (x ∷ []) = []
init (x ∷ y ∷ xs) = x ∷ init (y ∷ xs)

pub init-last : {X : Type 0} (xs : List X) (x : X) → init (xs ++ (x ∷ [])) ≡ xs
unfolding init
init-last [] x = refl
init-last (w ∷ []) x = refl
init-last (w ∷ v ∷ xs) x = ap (λ l. w ∷ l) (init-last (v ∷ xs) x)

spelt_init : {A B : Type 0} (R : A → B → Type 0) (xs : List A) (x : A) (ys : List B) → AllZip R (xs ++ (x ∷ [])) ys → AllZip R xs (init ys)
unfolding init
spelt_init R [] x [] h = absurd h
spelt_init R [] x (y ∷ []) h = tt
spelt_init R [] x (y ∷ z ∷ ys) h = absurd h.1
spelt_init R (w ∷ xs) x [] h = absurd h
spelt_init R (w ∷ []) x (y ∷ []) h = absurd h.1
spelt_init R (w ∷ v ∷ xs) x (y ∷ []) h = absurd h.1
spelt_init R (w ∷ xs) x (y ∷ z ∷ ys) h = (h.0, spelt_init R xs x (z ∷ ys) h.1)

-- the rows of the records after the header, without the last record
pub rows_reported : (format : Format) (t : Database) → IsWithinScale t → InRange t → (header : List (List ℕ)) (body : List (List (List ℕ))) → AreRecordsIn format t (header ∷ body)
    → AreSpelt (header_fields format t.scale) header × (rows_read (sizes format t.scale) (init body) ≡ all_rows format t)
unfolding AreRecordsIn records
rows_reported format t within range header body h =
    let spelt : AllZip AreSpelt (all_records format t) (init body) = spelt_init AreSpelt (all_records format t) (end_fields (records_by_table One t)) body h.1.1 in
    (h.1.0, read_all format t.scale (all_rows format t) (init body) (rows_fit format t h.0 within range) (subst (λ fields. AllZip AreSpelt fields (init body)) (sym (records_of_rows format t)) spelt))

-- orders without the lines of their records
orders_alone : (format : Format) (t : Database) (es : List (OrderKey × Order)) → map (λ (e : OrderKey × (Order × List (OrderLineKey × OrderLine))). (e.0, e.1.0)) (map (λ e. (e.0, (e.1, lines_in_order format t e.0))) es) ≡ es
orders_alone format t [] = refl
orders_alone format t (e ∷ es) = ap (λ l. e ∷ l) (orders_alone format t es)

pub orders_at : (format : Format) (t : Database) → map (λ (e : EntryOf Orders). (e.0, e.1.0)) (entries_at format Orders t) ≡ entries t.orders
orders_at format t = orders_alone format t (entries t.orders)

-- the lines of all orders
lines_together : (t : Database) (es : List (OrderKey × Order)) → flat_map (λ (e : OrderKey × (Order × List (OrderLineKey × OrderLine))). e.1.1) (map (λ e. (e.0, (e.1, lines_of t e.0))) es) ≡ flat_map (λ e. lines_of t e.0) es
lines_together t [] = refl
lines_together t (e ∷ es) = ap (λ l. lines_of t e.0 ++ l) (lines_together t es)

pub lines_in_all : (format : Format) (t : Database) → IsWithinScale t → lines_of_format format (all_rows format t) ≡ entries t.lines
lines_in_all One t within = entries_in_all One t Lines
lines_in_all Two t within = ap (flat_map (λ (e : EntryOf Orders). e.1.1)) (entries_in_all Two t Orders) ∙ lines_together t (entries t.orders) ∙ lines_grouped t within

records_tell : (format : Format) (t u : Database) → IsWithinScale t → IsWithinScale u → InRange t → InRange u → (rows : List (List (List ℕ))) → AreRecordsIn format t rows → AreRecordsIn format u rows → t ≡ u
unfolding AreRecordsIn records
records_tell format t u w v h g [] s r = absurd s.1
records_tell format t u w v h g (header ∷ body) s r =
    let one = rows_reported format t w h header body s in
    let other = rows_reported format u v g header body r in
    let scale = scale_reported format format t.scale u.scale header one.0 other.0 in
    let same : all_rows format t ≡ all_rows format u = sym one.1 ∙ ap (λ (c : Scale). rows_read (sizes format c) (init body)) scale ∙ other.1 in
    let reported : (table : Table) → entries_at format table t ≡ entries_at format table u = λ table.
    sym (entries_in_all format t table) ∙ ap (entries_of table) same ∙ entries_in_all format u table in
    let items = same_entries_map t.items u.items (reported Items) in
    let warehouses = same_entries_map t.warehouses u.warehouses (reported Warehouses) in
    let districts = same_entries_map t.districts u.districts (reported Districts) in
    let stocks = same_entries_map t.stocks u.stocks (reported Stocks) in
    let customers = same_entries_map t.customers u.customers (reported Customers) in
    let homes = same_keys districts_total districts_exact t.histories u.histories (λ q. w.histories q ∙ ap (λ (l : Scale). has_district l q) scale ∙ sym (v.histories q)) in
    let lists = same_lists (entries t.histories) (entries u.histories) homes (keys_ascend _ t.histories) (reported Histories) in
    let histories = same_entries_map t.histories u.histories lists in
    let orders = same_entries_map t.orders u.orders (sym (orders_at format t) ∙ ap (map (λ (e : EntryOf Orders). (e.0, e.1.0))) (reported Orders) ∙ orders_at format u) in
    let new_orders = same_entries_map t.new_orders u.new_orders (reported NewOrders) in
    let lines = same_entries_map t.lines u.lines (sym (lines_in_all format t w) ∙ ap (lines_of_format format) same ∙ lines_in_all format u v) in
    λ i. record {
      scale = scale i;
      items = items i;
      warehouses = warehouses i;
      districts = districts i;
      stocks = stocks i;
      customers = customers i;
      histories = histories i;
      orders = orders i;
      new_orders = new_orders i;
      lines = lines i;
    }

-- records of one format are those of no other
pub same_format : (f g : Format) (t u : Database) (rows : List (List (List ℕ))) → AreRecordsIn f t rows → AreRecordsIn g u rows → f ≡ g
unfolding AreRecordsIn records
same_format f g t u [] h k = absurd h.1
same_format f g t u (header ∷ body) h k = format_reported f g t.scale u.scale header h.1.0 k.1.0

pub records_report_tables : RecordsReportTables
records_report_tables t u w v h g one other rows s r =
    records_tell other t u w v h g rows (subst (λ f. AreRecordsIn f t rows) (same_format one other t u rows s r) s) r
