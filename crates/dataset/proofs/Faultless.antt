-- The records of tables have no fault.
use Rattle.std.proofs.Common.{◌≡◌, ◌≤◌, ◌<◌, ◌^◌, ◌-◌, ◌*◌, ◌&&◌, inl, inr, ℕ, suc, List, [], ◌∷◌, ◌++◌, map, length, Bool, true, false, Option, Some, None, Ok, codes, IsTrue, refl, sym, ap, subst, ◌∙◌, append_assoc, arith}
use Rattle.std.specs.Prelude.{IfErr, IsOk, MatchOption, MatchResult, Result, Err}
use Rattle.std.specs.Result.{is_ok}
use Rattle.std.specs.List.{AllByRecursion, AllZip}
use Rattle.std.specs.Str.{bytes_eq}
use Rattle.std.proofs.lemmas.List.{append-nil, length-append, length-map}
use Rattle.schema.specs.declared.scale.Scale.{Scale}
use Rattle.schema.specs.Database.{Database, IsWithinScale}
use Rattle.files.specs.declared.fault.FaultKind.{FaultKind}
use Rattle.files.specs.declared.fault.FileError.{FileError}
use Rattle.files.specs.declared.fault.FileError.TheVariants.{NoMemory, Failed, File}
use Rattle.files.specs.declared.fault.FaultKind.TheVariants as fault
use Rattle.files.specs.Columns.{Count, at_end, columns_fault, take_columns}
use Rattle.files.specs.FieldRead.{FieldsView, value_or}
use Rattle.files.specs.FirstFault.{ReportsFault, fault_at, fault_or}
use Rattle.files.specs.KindsRead.{count_read}
use Rattle.files.specs.Span.{record_size}
use Rattle.files.proofs.KindsRead.{count_complete}
use Rattle.files.proofs.RecordsLeft.{short_record}
use Rattle.dataset.specs.declared.place.Place.{Place}
use Rattle.dataset.specs.declared.place.Place.TheVariants as at
use Rattle.std.specs.FinMap.{entries}
use Rattle.dataset.specs.declared.format.Format.{Format}
use Rattle.dataset.specs.declared.format.Format.TheVariants.{One, Two}
use Rattle.dataset.specs.Formats.{IsWithinFormat, most_warehouses}
use Rattle.dataset.specs.Columns.{Sizes, Table, Items, Warehouses, Districts, Stocks, Customers, Histories, Orders, NewOrders, Lines, Of, ascend_from, comes_after, fields_fault, has_ascending_lines, kind_fault, kind_of, letter, or_order, place_in, record_columns, record_fault, sizes}
use Rattle.dataset.specs.FirstFault.{HasNoTables, IsFault, Reports, counts, first_fault, header_columns, header_fault, header_first, header_sizes, is_end, kind_place, last_place, number_of, number_of_lines, numbers_fault, record_place, rows_fault, reported_header}
use Rattle.dataset.specs.Loading.{AreInOrder}
use Rattle.dataset.specs.Order.{follows, place_numbers}
use Rattle.dataset.specs.Ranges.{InRange}
use Rattle.dataset.specs.Records.{Field, Words, Number, IsHeader, AreSpelt, AreRecordsIn, AreRecordsOfEither, customer_fields, district_fields, end_fields, header_fields, history_fields, item_fields, line_fields, lines_in_order, new_order_fields, order_record, records, records_by_table, row_records, scale_fields, stock_fields, warehouse_fields}
use Rattle.dataset.specs.TableRow.{TableRow, OfItem, OfOrder, RowFits, has_rising_lines, numbers_of, row_fields, row_place}
use Rattle.dataset.proofs.AllRows.{after_header, all_records, all_rows, entries_at, records_of_rows, rows_fit, rows_in_order}
use Rattle.dataset.proofs.ColumnFields.{spelt_are_read}
use Rattle.dataset.proofs.Bounds.{most_within}
use Rattle.dataset.proofs.HeaderFault.{format_spelt, format_word, number_word, sizes_spelt, some_format}
use Rattle.dataset.proofs.Keys.{all-weaker}
use Rattle.dataset.proofs.LetterFault.{letter_is_not_end}
use Rattle.dataset.proofs.OrderLines.{few_lines}
use Rattle.dataset.proofs.Loading.{header_place, last-push}
use Rattle.dataset.proofs.Payments.{payments_recorded}
use Rattle.dataset.proofs.RowFields.{row_reads}
use Rattle.dataset.proofs.RowTaken.{follows_reported, is_read}
use Rattle.dataset.proofs.RowsFault.{entries_counted, header_uncounted, lines_counted, number_le, rows_counted}
use Rattle.dataset.proofs.Short.{bytes_of, bytes_of_32, longer, short_number}
use Rattle.dataset.proofs.Reported.{entries_in_all, lines_in_all}
use Rattle.files.proofs.ColumnValues.{read-take}
use Rattle.files.specs.Columns.{Values, read_columns}

-- ---- numbers

numbers_kept : (ns : List ℕ) (texts : List (List ℕ)) → AllByRecursion (λ n. n < 2 ^ 64) ns → AreSpelt (map (λ n. Number n) ns) texts → record_size texts ≤ bytes_of 32 (length ns)
numbers_kept [] [] small spelt = omega arith
numbers_kept [] (text ∷ texts) small spelt = absurd spelt
numbers_kept (n ∷ ns) [] small spelt = absurd spelt
numbers_kept (n ∷ ns) (text ∷ texts) small spelt = longer 32 (omega arith) text texts (length ns) (short_number n text small.0 spelt.0) (numbers_kept ns texts small.1 spelt.1)

numbers_counted : (ns : List ℕ) (texts : List (List ℕ)) → AllByRecursion (λ n. n < 2 ^ 64) ns → AreSpelt (map (λ n. Number n) ns) texts
    → take_columns (map (λ count. Count count) ns) (record { left = texts; fault = None }) ≡ record { left = []; fault = None }
numbers_counted [] [] small spelt = refl
numbers_counted [] (text ∷ texts) small spelt = absurd spelt
numbers_counted (n ∷ ns) [] small spelt = absurd spelt
numbers_counted (n ∷ ns) (text ∷ texts) small spelt =
    ap (λ r. take_columns (map (λ count. Count count) ns) (value_or r n texts None).1) (ap (count_read n) spelt.0 ∙ count_complete n small.0) ∙ numbers_counted ns texts small.1 spelt.1

-- ---- the header

-- the texts of a header
record Five (format : Format) (scale : Scale) (header : List (List ℕ)) : Type 0 where
  name : List ℕ
  version : List ℕ
  others : List (List ℕ)
  are : header ≡ name ∷ version ∷ others
  is_name : name ≡ codes "TPCC"
  is_version : version ≡ format_word format
  spelt : AreSpelt (scale_fields scale) others

five : (format : Format) (scale : Scale) (header : List (List ℕ)) → AreSpelt (header_fields format scale) header → Five format scale header
five format scale [] spelt = absurd spelt
five format scale (a ∷ []) spelt = absurd spelt.1
five format scale (a ∷ b ∷ others) spelt = record { name = a; version = b; others = others; are = refl; is_name = spelt.0; is_version = spelt.1.0 ∙ number_word format; spelt = spelt.1.1 }

pub header_kept : (format : Format) (scale : Scale) (header : List (List ℕ)) → AreSpelt (header_fields format scale) header → record_size header ≤ 65536
header_kept format scale header spelt =
    let f = five format scale header spelt in
    let limits = scale.limits in
    let most_w = limits.most_warehouses in
    let most_i = limits.most_items in
    let most_c = limits.most_customers in
    let numbers = numbers_kept (scale.warehouses ∷ scale.items ∷ scale.customers ∷ []) f.others (omega (arith, most_w), (omega (arith, most_i), (omega (arith, most_c), tt))) f.spelt in
    let one = some_format format in
    let version : length f.version ≤ 32 = rw f.is_version (omega (arith, one)) in
    let name : length f.name ≤ 32 = rw f.is_name (omega arith) in
    let size = longer 32 (omega arith) f.name (f.version ∷ f.others) 4 name (longer 32 (omega arith) f.version f.others 3 version numbers) in
    let few = bytes_of_32 5 in
    subst (λ h. record_size h ≤ 65536) (sym f.are) (omega (arith, size, few))

pub header_free : (format : Format) (scale : Scale) (header : List (List ℕ)) → IsHeader format scale header → header_fault header ≡ None
header_free format scale header h =
    let f = five format scale header h.is_spelt in
    let limits = scale.limits in
    let columns = header_columns format in
    let most = most_within format in
    let read = spelt_are_read columns (scale.warehouses, (scale.items, (scale.customers, tt))) f.others (omega (arith, most), (omega arith, (omega arith, tt)))
    ((limits.some_warehouse, h.within), ((limits.some_item, limits.most_items), ((limits.some_customer, limits.most_customers), tt))) f.spelt in
    let start : FieldsView = record { left = f.others; fault = None } in
    let none : columns_fault columns f.others ≡ None = ap (λ (t : FieldsView). at_end t.left t.fault) (sym (read-take columns start) ∙ ap (λ (p : Values columns × FieldsView). p.1) read) in
    let reported : reported_header header ≡ None =
    ap (λ k. numbers_fault k header) (format_spelt format scale header h.is_spelt) ∙ ap (numbers_fault (Some format)) f.are ∙ none in
    short_record header (reported_header header) (header_kept format scale header h.is_spelt) ∙ reported

-- ---- a row's record

order_of : (fault : Option FaultKind) (in_order : Bool) → fault ≡ None → in_order ≡ true → or_order fault in_order ≡ None
order_of fault in_order none after = rw (none, after) refl

rising_fits : (format : Format) (scale : Scale) (row : TableRow) → RowFits format scale row → IsTrue (has_rising_lines row)
rising_fits One scale (OfOrder key row lines) fits = ap (λ ls. ascend_from 0 (numbers_of ls)) fits.0.1
rising_fits Two scale (OfOrder key row lines) fits = fits.0.1.1
rising_fits format scale (OfItem key row) fits = refl
rising_fits format scale row fits = refl

-- after records whose last place the row follows, the row's record has no fault, and its place is the row's
record RowPasses (format : Format) (scale : Scale) (before : List (List (List ℕ))) (row : TableRow) (texts : List (List ℕ)) : Type 0 where
  free : record_fault (sizes format scale) (last_place (sizes format scale) before) (counts format before) texts ≡ None
  no_end : is_end texts ≡ false
  place : record_place (sizes format scale) texts ≡ place_numbers (row_place row)

row_passes : (format : Format) (scale : Scale) (before : List (List (List ℕ))) (last : Place) (row : TableRow) (texts : List (List ℕ)) → last_place (sizes format scale) before ≡ place_numbers last
    → RowFits format scale row → IsTrue (follows (row_place row) last) → AreSpelt (row_fields row) texts → RowPasses format scale before row texts
row_passes format scale before last row texts at_last fits follow spelt =
    let s = sizes format scale in
    let r = row_reads format scale row texts fits spelt in
    let count = length r.fields in
    let read = is_read s r.table r.fields r.none in
    let values = (read_columns (record_columns s r.table count) (record { left = r.fields; fault = None })).0 in
    let kind : kind_of format (letter r.table) ≡ Some (Of r.table) = r.is_kind in
    let place : place_in s r.table r.fields ≡ place_numbers (row_place row) = sym read.place ∙ ap (λ x. place_numbers (row_place x)) r.is_row in
    let after : comes_after r.table (place_in s r.table r.fields) (last_place s before) ≡ true =
    ap (comes_after r.table (place_in s r.table r.fields)) at_last ∙ ap (λ p. comes_after r.table p (place_numbers last)) (sym read.place)
    ∙ sym (follows_reported s r.table count values last) ∙ ap (λ x. follows (row_place x) last) r.is_row ∙ follow in
    let rising : has_ascending_lines s r.table r.fields ≡ true = sym read.rises ∙ ap has_rising_lines r.is_row ∙ rising_fits format scale row fits in
    let ordered : (has_ascending_lines s r.table r.fields && comes_after r.table (place_in s r.table r.fields) (last_place s before)) ≡ true = λ i. rising i && after i in
    let free : kind_fault s (last_place s before) (counts format before) (Some (Of r.table)) r.fields ≡ None = order_of _ _ r.none ordered in
    record {
      free = short_record texts (fields_fault s (last_place s before) (counts format before) texts) r.kept ∙ ap (fields_fault s (last_place s before) (counts format before)) r.are
          ∙ ap (λ k. kind_fault s (last_place s before) (counts format before) k r.fields) kind ∙ free;
      no_end = ap is_end r.are ∙ letter_is_not_end r.table;
      place = ap (record_place s) r.are ∙ ap (λ k. kind_place s k r.fields) kind ∙ place;
    }

-- ---- all rows, and the end record

module _ (format : Format) (scale : Scale) (end : List (List ℕ)) where
  -- what has no fault behind all of them has none behind some
  rows_pass : (rows : List TableRow) (before texts : List (List (List ℕ))) (last : Place) → last_place (sizes format scale) before ≡ place_numbers last → AllByRecursion (RowFits format scale) rows → AreInOrder rows
      → AllByRecursion (λ row. IsTrue (follows (row_place row) last)) rows → AllZip AreSpelt (map row_fields rows) texts
      → rows_fault (sizes format scale) before (texts ++ (end ∷ [])) ≡ rows_fault (sizes format scale) (before ++ texts) (end ∷ [])
  unfolding rows_fault
  rows_pass [] before [] last at_last fits order follow spelt = ap (λ b. rows_fault (sizes format scale) b (end ∷ [])) (sym (append-nil before))
  rows_pass [] before (text ∷ texts) last at_last fits order follow spelt = absurd spelt
  rows_pass (row ∷ rows) before [] last at_last fits order follow spelt = absurd spelt
  rows_pass (row ∷ rows) before (text ∷ texts) last at_last fits order follow spelt =
      let passes = row_passes format scale before last row text at_last fits.0 follow.0 spelt.0 in
      let next = rows_pass rows (before ++ (text ∷ [])) texts (row_place row) (last-push (sizes format scale) before text ∙ passes.place) fits.1 order.1 order.0 spelt.1 in
      rw (passes.free, passes.no_end) (next ∙ ap (λ b. rows_fault (sizes format scale) b (end ∷ [])) (append_assoc before (text ∷ []) texts))

-- the counts of an end record
end_free : (s : Sizes) (before : List (List (List ℕ))) (ns : List ℕ) (end : List (List ℕ)) → counts s.format before ≡ ns → AllByRecursion (λ n. n < 2 ^ 64) ns → length ns ≤ 100 → AreSpelt (Words (codes "END") ∷ map (λ n. Number n) ns) end
    → rows_fault s before (end ∷ []) ≡ None
unfolding rows_fault
end_free s before ns [] are small few spelt = absurd spelt
end_free s before ns (word ∷ texts) are small few spelt =
    let size = longer 32 (omega arith) word texts (length ns) (let e : length word ≤ 32 = rw spelt.0 (omega arith) in e) (numbers_kept ns texts small spelt.1) in
    let bytes = bytes_of_32 (suc (length ns)) in
    let kept : record_size (word ∷ texts) ≤ 65536 = omega (arith, size, few, bytes) in
    let none : columns_fault (map (λ count. Count count) ns) texts ≡ None = ap (λ (t : FieldsView). at_end t.left t.fault) (numbers_counted ns texts small spelt.1) in
    let free : record_fault s (last_place s before) (counts s.format before) (word ∷ texts) ≡ None =
    short_record (word ∷ texts) (fields_fault s (last_place s before) (counts s.format before) (word ∷ texts)) kept
    ∙ ap (λ w. fields_fault s (last_place s before) (counts s.format before) (w ∷ texts)) spelt.0 ∙ ap (λ c. columns_fault (map (λ count. Count count) c) texts) are ∙ none in
    let is : is_end (word ∷ texts) ≡ true = ap (λ w. bytes_eq w (codes "END")) spelt.0 in
    rw (free, is) refl

-- ---- all records

-- all texts but the last, and the last
record Ends {A B : Type 0} (R : A → B → Type 0) (xs : List A) (x : A) (ys : List B) : Type 0 where
  front : List B
  last : B
  are : ys ≡ front ++ (last ∷ [])
  firsts : AllZip R xs front
  is_last : R x last

ends : {A B : Type 0} (R : A → B → Type 0) (xs : List A) (x : A) (ys : List B) → AllZip R (xs ++ (x ∷ [])) ys → Ends R xs x ys
ends R [] x [] h = absurd h
ends R [] x (y ∷ []) h = record { front = []; last = y; are = refl; firsts = tt; is_last = h.0 }
ends R [] x (y ∷ z ∷ ys) h = absurd h.1
ends R (w ∷ xs) x [] h = absurd h
ends R (w ∷ xs) x (y ∷ ys) h =
    let rest = ends R xs x ys h.1 in
    record { front = y ∷ rest.front; last = rest.last; are = ap (λ l. y ∷ l) rest.are; firsts = (h.0, rest.firsts); is_last = rest.is_last }

warehouses_within : (format : Format) (t : Database) → IsWithinFormat format t → t.scale.warehouses ≤ most_warehouses format
warehouses_within One t within = within.warehouses
warehouses_within Two t within = t.scale.limits.most_warehouses

module _ (format : Format) (t : Database) (within : IsWithinScale t) (fit : AllByRecursion (RowFits format t.scale) (all_rows format t)) (header : List (List ℕ)) (texts : List (List (List ℕ)))
    (is_header : AreSpelt (header_fields format t.scale) header) (spelt : AllZip AreSpelt (map row_fields (all_rows format t)) texts) where
  table_counted : (table : Table) → number_of table (header ∷ texts) ≡ length (entries_at format table t)
  table_counted table =
      header_uncounted table format t.scale header texts is_header ∙ rows_counted table (all_rows format t) texts spelt ∙ entries_counted table (all_rows format t)
      ∙ ap length (entries_in_all format t table)

  counted_as : {K X : Type 0} (fields : K → X → List Field) (table : Table) (es : List (K × X)) → length (entries_at format table t) ≡ length es → number_of table (header ∷ texts) ≡ length (row_records fields es)
  counted_as fields table es same = table_counted table ∙ same ∙ sym (length-map es (λ e. fields e.0 e.1))

  pub lines_number : number_of_lines format (header ∷ texts) ≡ length (entries t.lines)
  lines_number =
      lines_counted format t.scale header (all_rows format t) texts is_header (all-weaker _ _ (λ row fits. fits.0) (all_rows format t) fit) spelt
      ∙ ap length (lines_in_all format t within)

  -- as many of each table as the tables have
  counts_are : counts format (header ∷ texts) ≡ map length (records_by_table One t)
  unfolding records_by_table
  counts_are i =
      counted_as item_fields Items (entries t.items) refl i
      ∷ counted_as warehouse_fields Warehouses (entries t.warehouses) refl i
      ∷ counted_as district_fields Districts (entries t.districts) refl i
      ∷ counted_as stock_fields Stocks (entries t.stocks) refl i
      ∷ counted_as customer_fields Customers (entries t.customers) refl i
      ∷ (table_counted Histories ∙ sym (length-map (entries_at format Histories t) (λ e. history_fields e.0 e.1)) ∙ ap length (payments_recorded (entries t.histories))) i
      ∷ counted_as (λ key row. order_record key row []) Orders (entries t.orders) (length-map (entries t.orders) (λ e. (e.0, (e.1, lines_in_order format t e.0)))) i
      ∷ counted_as new_order_fields NewOrders (entries t.new_orders) refl i
      ∷ (lines_number ∙ sym (length-map (entries t.lines) (λ e. line_fields e.0 e.1))) i ∷ []

small_counts : (format : Format) (rows : List (List (List ℕ))) → length rows < 2 ^ 64 → number_of_lines format rows < 2 ^ 64 → AllByRecursion (λ n. n < 2 ^ 64) (counts format rows)
small_counts format rows few lines = (small Items, (small Warehouses, (small Districts, (small Stocks, (small Customers, (small Histories, (small Orders, (small NewOrders, (lines, tt)))))))))
  where
    small : (table : Table) → number_of table rows < 2 ^ 64
    small table = let most = number_le table rows in omega (arith, most, few)

numbers_of_parts : (parts : List (List (List Field))) → map (λ records. Number (length records)) parts ≡ map (λ n. Number n) (map length parts)
numbers_of_parts [] = refl
numbers_of_parts (part ∷ parts) = ap (λ l. Number (length part) ∷ l) (numbers_of_parts parts)

few_parts : (t : Database) → length (map length (records_by_table One t)) ≤ 100
unfolding records_by_table
few_parts t = omega arith

pub records_free : (format : Format) (t : Database) → IsWithinScale t → InRange t → (rows : List (List (List ℕ))) → length rows < 2 ^ 64 - 1 → AreRecordsIn format t rows → first_fault rows ≡ None
unfolding AreRecordsIn records first_fault
records_free format t within range [] few are = absurd are.1
records_free format t within range (header ∷ body) few are =
    let s = sizes format t.scale in
    let parts = records_by_table One t in
    let e = ends AreSpelt (all_records format t) (end_fields parts) body are.1.1 in
    let fit = rows_fit format t are.0 within range in
    let is_header : IsHeader format t.scale header = record { within = warehouses_within format t are.0; is_spelt = are.1.0 } in
    let spelt : AllZip AreSpelt (map row_fields (all_rows format t)) e.front = subst (λ fields. AllZip AreSpelt fields e.front) (sym (records_of_rows format t)) e.firsts in
    let long = ap length e.are in
    let pushed = length-append e.front (e.last ∷ []) in
    let counted = counts_are format t within fit header e.front are.1.0 spelt in
    let lines : number_of_lines format (header ∷ e.front) < 2 ^ 64 = subst (λ n. n < 2 ^ 64) (sym (lines_number format t within fit header e.front are.1.0 spelt)) (few_lines t within) in
    let small = subst (AllByRecursion (λ n. n < 2 ^ 64)) counted (small_counts format (header ∷ e.front) (omega (arith, long, pushed, few)) lines) in
    let rows = rows_pass format t.scale e.last (all_rows format t) (header ∷ []) e.front at.Header (header_place s format t.scale header are.1.0) fit (rows_in_order format t) (after_header (all_rows format t)) spelt in
    let last = end_free s (header ∷ e.front) (map length parts) e.last counted small (few_parts t)
    (subst (λ fields. AreSpelt (Words (codes "END") ∷ fields) e.last) (numbers_of_parts parts) e.is_last) in
    ap (λ k. fault_or k 1 (rows_fault (header_sizes header) (header ∷ []) body)) (header_free format t.scale header is_header)
    ∙ ap (λ z. rows_fault z (header ∷ []) body) (sym (sizes_spelt format t.scale header are.1.0)) ∙ ap (rows_fault s (header ∷ [])) e.are ∙ rows ∙ last

-- ---- what is reported of a text

-- a header without a fault is not reported to have one
pub no_header_fault : (error : FileError) (format : Format) (scale : Scale) (header : List (List ℕ)) (rows : List (List (List ℕ))) → IsHeader format scale header → IsFault error → ReportsFault error (header_first (header ∷ rows)) → ⊥
no_header_fault NoMemory format scale header rows spelt is reports = is
no_header_fault (Failed number) format scale header rows spelt is reports = is
no_header_fault (File f) format scale header rows is_header is reports =
    let clash : None ≡ Some f = sym (ap (λ k. fault_or k 1 None) (header_free format scale header is_header)) ∙ reports in cc

-- the records of a format are those of either
pub of_either : (format : Format) (t : Database) (rows : List (List (List ℕ))) → AreRecordsIn format t rows → AreRecordsOfEither t rows
of_either One t rows are = inl are
of_either Two t rows are = inr are

either_free : (t : Database) → IsWithinScale t → InRange t → (rows : List (List (List ℕ))) → length rows < 2 ^ 64 - 1 → AreRecordsOfEither t rows → first_fault rows ≡ None
either_free t within range rows few (inl are) = records_free One t within range rows few are
either_free t within range rows few (inr are) = records_free Two t within range rows few are

-- no fault of the records of tables is reported
pub no_fault_reported : (error : FileError) (rows : List (List (List ℕ))) → length rows < 2 ^ 64 - 1 → Reports rows error → IsFault error → HasNoTables rows
no_fault_reported NoMemory rows few reports is = absurd is
no_fault_reported (Failed number) rows few reports is = absurd is
no_fault_reported (File f) rows few reports is = λ t within range are.
    (subst (λ o. MatchOption o ((f ≡ fault_at fault.ScaleBroken (length rows)) × HasNoTables rows) (λ first. f ≡ first)) (either_free t within range rows few are) reports).1 t within range are

-- what is reported of all records that are left holds for an error
pub error_reported : {X E L : Type 0} (r : Result X E) (P : L → X → Type 0) (Q : L → E → Type 0) (Left : L → Type 0) → ((rows : L) → Left rows → MatchResult r (P rows) (Q rows)) → IfErr r (λ error. (rows : L) → Left rows → Q rows error)
error_reported (Ok x) P Q Left h = tt
error_reported (Err e) P Q Left h = h

pub is_no_err : {X E : Type 0} (r : Result X E) (k : E) → IsOk r → r ≡ Err k → ⊥
is_no_err r k h e = let clash : true ≡ false = sym h ∙ ap is_ok e in cc
