-- The first fault of the records that are left.
use Rattle.std.proofs.Common.{◌≡◌, ◌≤◌, ◌<◌, ◌^◌, ◌+◌, ◌-◌, ◌*◌, ◌⊎◌, ◌==◌, ℕ, suc, List, [], ◌∷◌, ◌++◌, map, sum, length, Bool, true, false, Option, Some, None, codes, get_or, refl, sym, ap, subst, ◌∙◌, append_assoc, arith, zero-add}
use Rattle.std.specs.Prelude.{if◌then◌else◌}
use Rattle.std.specs.List.{AllByRecursion, AllZip, flat_map, zip}
use Rattle.std.proofs.lemmas.Slice.Zip.{AllZip-long}
use Rattle.std.specs.Map.{values_of}
use Rattle.std.specs.Str.{bytes_eq}
use Rattle.std.proofs.lemmas.List.{length-append, length-map}
use Rattle.std.proofs.lemmas.List.Sums.{sum-map, sum_by-cons}
use Rattle.rows.specs.declared.keys.DistrictKey.{DistrictKey}
use Rattle.rows.specs.declared.records.History.{History}
use Rattle.schema.specs.declared.scale.Scale.{Scale}
use Rattle.schema.specs.Scale.{district_keys}
use Rattle.files.specs.declared.fault.FaultKind.TheVariants as fault
use Rattle.files.specs.declared.fault.FileFault.{FileFault}
use Rattle.files.specs.declared.fault.FileError.{FileError}
use Rattle.files.specs.declared.fault.FileError.TheVariants.{NoMemory, Failed, File}
use Rattle.files.specs.declared.records.Records.{Records}
use Rattle.files.specs.Place.{FirstIsTooLong, HasLeft, HasLeftAfter, file_fault, record_fields, record_number}
use Rattle.files.specs.Span.{record_size}
use Rattle.dataset.specs.declared.loader.Loader.{Loader}
use Rattle.dataset.specs.declared.loader.Taken.TheVariants.{Row, End}
use Rattle.dataset.specs.Columns.{Sizes, Table, Items, Warehouses, Districts, Stocks, Customers, Histories, Orders, NewOrders, Lines, fields_fault, letter, record_fault, sizes, table_number}
use Rattle.files.specs.FirstFault.{ReportsFault, ReportsKind, behind_end, fault_at}
use Rattle.dataset.specs.FirstFault.{counts, is_end, is_of, last_place, lines_in, number_of, number_of_lines, rows_fault}
use Rattle.dataset.specs.Loading.{HasLoaded, HasRows}
use Rattle.dataset.specs.Order.{place_numbers}
use Rattle.rows.specs.declared.limits.TheConstants.{MOST_LINES}
use Rattle.rows.specs.declared.keys.OrderLineKey.{OrderLineKey}
use Rattle.rows.specs.declared.records.OrderLine.{OrderLine}
use Rattle.dataset.specs.declared.format.Format.{Format}
use Rattle.dataset.specs.declared.format.Format.TheVariants.{One, Two}
use Rattle.dataset.specs.Formats.{line_count}
use Rattle.dataset.specs.Records.{AreSpelt, IsSpelt, header_fields, lines_fields}
use Rattle.dataset.specs.TableRow.{TableRow, OfItem, OfWarehouse, OfDistrict, OfStock, OfCustomer, OfHistory, OfOrder, OfNewOrder, OfLine, IsKnown, row_fields, rows_read}
use Rattle.dataset.specs.TakenAs.{IsDone, ReachesEnd}
use Rattle.dataset.specs.Writing.{table_counts}
use Rattle.dataset.proofs.Contents.{entries_of, kept, lines_added, lines_of_format, lines_of_rows, of_entries, of_table, with_row}
use Rattle.dataset.proofs.EachTable.{RowOf, make, number_of_row}
use Rattle.dataset.proofs.Finished.{are_kept, lines_kept, paid}
use Rattle.files.proofs.RecordsLeft.{long_record, next_row, no_row, not_advanced, short_record}
use Rattle.dataset.proofs.LetterFault.{letter_is_not_end}
use Rattle.dataset.proofs.Loading.{record_loaded}
use Rattle.dataset.proofs.Payments.{payments_of}

-- ---- how many records of each table were read

-- a letter determines its table
letter_is : (own table : Table) → bytes_eq (letter own) (letter table) ≡ (table_number own == table_number table)
letter_is Items Items = refl
letter_is own Items = refl
letter_is own table = refl

letter_reports : (own table : Table) (text : List ℕ) → text ≡ letter own → bytes_eq text (letter table) ≡ (table_number own == table_number table)
letter_reports own table text is = ap (λ w. bytes_eq w (letter table)) is ∙ letter_is own table

first_letter : (row : TableRow) (texts : List (List ℕ)) (table : Table) → AreSpelt (row_fields row) texts → is_of table texts ≡ (number_of_row row == table_number table)
first_letter (OfItem key x) [] table spelt = absurd spelt
first_letter (OfItem key x) (text ∷ texts) table spelt = letter_reports Items table text spelt.0
first_letter (OfWarehouse key x) (text ∷ texts) table spelt = letter_reports Warehouses table text spelt.0
first_letter (OfDistrict key x) (text ∷ texts) table spelt = letter_reports Districts table text spelt.0
first_letter (OfStock key x) (text ∷ texts) table spelt = letter_reports Stocks table text spelt.0
first_letter (OfCustomer key x) (text ∷ texts) table spelt = letter_reports Customers table text spelt.0
first_letter (OfHistory key x) (text ∷ texts) table spelt = letter_reports Histories table text spelt.0
first_letter (OfOrder key x lines) (text ∷ texts) table spelt = letter_reports Orders table text spelt.0
first_letter (OfNewOrder key x) (text ∷ texts) table spelt = letter_reports NewOrders table text spelt.0
first_letter (OfLine key x) (text ∷ texts) table spelt = letter_reports Lines table text spelt.0
first_letter row [] table spelt = absurd spelt

counted_first : (b : Bool) (row : TableRow) (rows : List TableRow) → (if b then 1 else 0) + length rows ≡ length (with_row b row rows)
counted_first true row rows = omega arith
counted_first false row rows = omega arith

-- the records of a table are as many as its rows
pub rows_counted : (table : Table) (rows : List TableRow) (records : List (List (List ℕ))) → AllZip AreSpelt (map row_fields rows) records → number_of table records ≡ length (of_table (table_number table) rows)
unfolding number_of
rows_counted table [] [] spelt = refl
rows_counted table [] (record_ ∷ records) spelt = absurd spelt
rows_counted table (row ∷ rows) [] spelt = absurd spelt
rows_counted table (row ∷ rows) (record_ ∷ records) spelt =
    ap (λ b. (if b then 1 else 0) + number_of table records) (first_letter row record_ table spelt.0)
    ∙ ap (λ n. (if number_of_row row == table_number table then 1 else 0) + n) (rows_counted table rows records spelt.1)
    ∙ counted_first (number_of_row row == table_number table) row (of_table (table_number table) rows)

pub entries_counted : (table : Table) (rows : List TableRow) → length (of_table (table_number table) rows) ≡ length (entries_of table rows)
entries_counted table rows = ap length (of_entries table rows) ∙ length-map (entries_of table rows) (make table)

not_of : (table : Table) → bytes_eq (codes "TPCC") (letter table) ≡ false
not_of Items = refl
not_of table = refl

pub header_uncounted : (table : Table) (format : Format) (scale : Scale) (header : List (List ℕ)) (rows : List (List (List ℕ))) → AreSpelt (header_fields format scale) header → number_of table (header ∷ rows) ≡ number_of table rows
unfolding number_of
header_uncounted table format scale [] rows s = absurd s
header_uncounted table format scale (text ∷ texts) rows s =
    ap (λ b. (if b then 1 else 0) + number_of table rows) (ap (λ w. bytes_eq w (letter table)) s.0 ∙ not_of table) ∙ (let none : 0 + number_of table rows ≡ number_of table rows = omega arith in none)

payments_counted : (ks : List DistrictKey) (lists : List (List History)) → length lists ≤ length ks → length (payments_of (zip ks lists)) ≡ sum (map length lists)
payments_counted [] [] few = refl
payments_counted [] (list ∷ lists) few = absurd (omega arith)
payments_counted (k ∷ ks) [] few = refl
payments_counted (k ∷ ks) (list ∷ lists) few =
    length-append (map (λ row. (k, row)) list) (payments_of (zip ks lists)) ∙ ap (λ n. n + length (payments_of (zip ks lists))) (length-map list (λ row. (k, row)))
    ∙ ap (λ n. length list + n) (payments_counted ks lists (omega arith) ∙ sum-map length lists) ∙ sym (sum-map length (list ∷ lists) ∙ sum_by-cons length list lists)

-- ---- how many lines were read

-- the fields of lines, seven each
long_lines : (lines : List (OrderLineKey × OrderLine)) → length (lines_fields lines) ≡ 7 * length lines
long_lines [] = refl
long_lines (line ∷ lines) = let rest = long_lines lines in omega (arith, rest)

-- the record of a row of format 2 has the lines that the row adds
lines_in_record : (scale : Scale) (row : TableRow) (texts : List (List ℕ)) → IsKnown Two scale row → AreSpelt (row_fields row) texts → lines_in texts ≡ length (lines_added row)
lines_in_record scale (OfOrder key x lines) [] known spelt = absurd spelt
lines_in_record scale (OfOrder key x lines) (text ∷ texts) known spelt =
    let long = AllZip-long IsSpelt (row_fields (OfOrder key x lines)) (text ∷ texts) spelt in
    let fields = long_lines lines in
    let few : length lines ≤ MOST_LINES = known.1.2 in
    let count : line_count Two (length texts - 8) ≡ length lines = omega (arith, long, fields, few) in
    ap (λ w. if bytes_eq w (letter Orders) then line_count Two (length texts - 8) else 0) spelt.0 ∙ count
lines_in_record scale (OfLine key x) texts known spelt = absurd known
lines_in_record scale (OfItem key x) (text ∷ texts) known spelt = ap (λ w. if bytes_eq w (letter Orders) then line_count Two (length texts - 8) else 0) spelt.0
lines_in_record scale row [] known spelt = absurd spelt
lines_in_record scale row (text ∷ texts) known spelt = ap (λ w. if bytes_eq w (letter Orders) then line_count Two (length texts - 8) else 0) spelt.0

lines_in_records : (scale : Scale) (rows : List TableRow) (records : List (List (List ℕ))) → AllByRecursion (IsKnown Two scale) rows → AllZip AreSpelt (map row_fields rows) records
    → sum (map lines_in records) ≡ length (flat_map lines_added rows)
lines_in_records scale [] [] known spelt = refl
lines_in_records scale [] (record_ ∷ records) known spelt = absurd spelt
lines_in_records scale (row ∷ rows) [] known spelt = absurd spelt
lines_in_records scale (row ∷ rows) (record_ ∷ records) known spelt =
    sum-map lines_in (record_ ∷ records) ∙ sum_by-cons lines_in record_ records ∙ ap (λ n. lines_in record_ + n) (sym (sum-map lines_in records))
    ∙ (λ i. lines_in_record scale row record_ known.0 spelt.0 i + lines_in_records scale rows records known.1 spelt.1 i)
    ∙ sym (length-append (lines_added row) (flat_map lines_added rows))

header_without_lines : (format : Format) (scale : Scale) (header : List (List ℕ)) → AreSpelt (header_fields format scale) header → lines_in header ≡ 0
header_without_lines format scale [] spelt = refl
header_without_lines format scale (text ∷ texts) spelt = ap (λ w. if bytes_eq w (letter Orders) then line_count Two (length texts - 8) else 0) spelt.0

-- the lines that are counted are those of the rows
pub lines_counted : (format : Format) (scale : Scale) (header : List (List ℕ)) (rows : List TableRow) (records : List (List (List ℕ))) → AreSpelt (header_fields format scale) header
    → AllByRecursion (IsKnown format scale) rows → AllZip AreSpelt (map row_fields rows) records → number_of_lines format (header ∷ records) ≡ length (lines_of_format format rows)
lines_counted One scale header rows records is_header known spelt =
    header_uncounted Lines One scale header records is_header ∙ rows_counted Lines rows records spelt ∙ entries_counted Lines rows
lines_counted Two scale header rows records is_header known spelt =
    sum-map lines_in (header ∷ records) ∙ sum_by-cons lines_in header records ∙ ap (λ n. lines_in header + n) (sym (sum-map lines_in records))
    ∙ (λ i. header_without_lines Two scale header is_header i + (lines_in_records scale rows records known spelt ∙ ap length (lines_of_rows Two scale rows known)) i) ∙ zero-add (length (lines_of_format Two rows))

module _ (l : Loader) (header : List (List ℕ)) (records : List (List (List ℕ))) (rows : List TableRow) (spelt : AreSpelt (header_fields l.format l.scale) header) (h : HasRows l.format l.scale l.rows l.last records rows) where
  table_counted : (table : Table) → length (entries_of table rows) ≡ number_of table (header ∷ records)
  table_counted table =
      sym (entries_counted table rows) ∙ sym (rows_counted table rows records h.are_spelt) ∙ sym (header_uncounted table l.format l.scale header records spelt)

  dense_counted : (table : Table) (list : List (RowOf table)) → values_of (entries_of table rows) ≡ list → length list ≡ number_of table (header ∷ records)
  dense_counted table list are = ap length (sym are) ∙ length-map (entries_of table rows) (λ e. e.1) ∙ table_counted table

  -- what the end record has to count
  all_counted : table_counts l.rows ≡ counts l.format (header ∷ records)
  all_counted =
      let paid_count =
      sym (payments_counted (district_keys l.scale) (kept Histories l.rows) (paid h).few) ∙ ap length (are_kept h Histories) ∙ table_counted Histories in
      λ i. dense_counted Items (kept Items l.rows) (are_kept h Items) i
      ∷ dense_counted Warehouses (kept Warehouses l.rows) (are_kept h Warehouses) i
      ∷ dense_counted Districts (kept Districts l.rows) (are_kept h Districts) i
      ∷ dense_counted Stocks (kept Stocks l.rows) (are_kept h Stocks) i
      ∷ dense_counted Customers (kept Customers l.rows) (are_kept h Customers) i
      ∷ paid_count i
      ∷ (ap length (are_kept h Orders) ∙ length-map (entries_of Orders rows) (λ e. (e.0, e.1.0)) ∙ table_counted Orders) i
      ∷ (ap length (are_kept h NewOrders) ∙ table_counted NewOrders) i
      ∷ (ap length (lines_kept h) ∙ sym (lines_counted l.format l.scale header rows records spelt h.known h.are_spelt)) i ∷ []

pub counts_loaded : (l : Loader) (read : List (List (List ℕ))) → HasLoaded l read → table_counts l.rows ≡ counts l.format read
counts_loaded l read h = all_counted l h.header h.records (rows_read (sizes l.format l.scale) h.records) h.is_header.is_spelt h.rows ∙ ap (counts l.format) (sym h.are)

pub number_le : (table : Table) (rows : List (List (List ℕ))) → number_of table rows ≤ length rows
unfolding number_of
number_le table [] = omega arith
number_le table (row ∷ rows) = let rest = number_le table rows in elim (is_of table row) as (λ b. (if b then 1 else 0) + number_of table rows ≤ suc (length rows)) [ true ↦ omega (arith, rest) | false ↦ omega (arith, rest) ]

pub few_payments_read : (l : Loader) (read : List (List (List ℕ))) → HasLoaded l read → length read < 2 ^ 64 → sum (map length l.rows.histories.items) < 2 ^ 64
few_payments_read l read h few =
    let same = ap (λ (ns : List ℕ). get_or ns 5 0) (counts_loaded l read h) in
    let most = number_le Histories read in
    omega (arith, same, most, few)

-- ---- one record more

module _ (l : Loader) (read : List (List (List ℕ))) (at : HasLoaded l read) (row : List (List ℕ)) (rest : List (List (List ℕ))) (short : record_size row ≤ 65536) where
  known : record_fault (sizes l.format l.scale) (last_place (sizes l.format l.scale) read) (counts l.format read) row ≡ fields_fault (sizes l.format l.scale) (place_numbers l.last) (table_counts l.rows) row
  known = short_record row (fields_fault (sizes l.format l.scale) (last_place (sizes l.format l.scale) read) (counts l.format read) row) short
      ∙ (λ i. fields_fault (sizes l.format l.scale) (sym at.last i) (sym (counts_loaded l read at) i) row)

  -- a row's record without a fault
  pub row_passes : fields_fault (sizes l.format l.scale) (place_numbers l.last) (table_counts l.rows) row ≡ None → is_end row ≡ false → rows_fault (sizes l.format l.scale) read (row ∷ rest) ≡ rows_fault (sizes l.format l.scale) (read ++ (row ∷ [])) rest
  unfolding rows_fault
  row_passes none no_end = rw (known ∙ none, no_end) refl

  -- the end record
  pub end_passes : fields_fault (sizes l.format l.scale) (place_numbers l.last) (table_counts l.rows) row ≡ None → is_end row ≡ true → rows_fault (sizes l.format l.scale) read (row ∷ rest) ≡ behind_end (length read + 1) rest
  unfolding rows_fault
  end_passes none end = rw (known ∙ none, end) refl

  -- a fault is the first one
  pub fault_found : (error : FileError) (number : ℕ) → number ≡ length read + 1 → ReportsKind error (fields_fault (sizes l.format l.scale) (place_numbers l.last) (table_counts l.rows) row) number → ReportsFault error (rows_fault (sizes l.format l.scale) read (row ∷ rest))
  unfolding rows_fault
  fault_found NoMemory number same reports = tt
  fault_found (Failed at) number same reports = absurd reports
  fault_found (File f) number same reports =
      let is : f ≡ fault_at f.kind (length read + 1) = (λ i. record { kind = f.kind; «record» = (reports.1 ∙ same) i }) in
      rw (known ∙ reports.0) (ap (λ (x : FileFault). Some x) (sym is))

-- a record that is too long
pub long_found : (scale : Sizes) (read rows : List (List (List ℕ))) → FirstIsTooLong rows → rows_fault scale read rows ≡ Some (fault_at fault.WrongShape (length read + 1))
unfolding rows_fault
long_found scale read [] long = absurd long
long_found scale read (row ∷ rows) long = rw (long_record row (fields_fault scale (last_place scale read) (counts scale.format read) row) long) refl

pub no_end : (scale : Sizes) (read : List (List (List ℕ))) → rows_fault scale read [] ≡ Some (fault_at fault.NoEnd (length read + 1))
unfolding rows_fault
no_end scale read = refl

-- ---- in the midst of the records

-- so many records were read, and the first fault is that of those that are left
pub record GoesOnAt {R : Type 0} (remaining : R → Option (List ℕ)) (scale : Sizes) (read rows : List (List (List ℕ))) (l : Loader) (r : Records R) (counter : ℕ) : Type 0 where
  pub before : List (List (List ℕ))
  pub left : List (List (List ℕ))
  pub at : HasLoaded l before
  pub whole : before ++ left ≡ read ++ rows
  pub same_scale : sizes l.format l.scale ≡ scale
  pub number : record_number r ≡ length before
  pub has_left : HasLeft remaining left r
  pub fault : rows_fault scale read rows ≡ rows_fault scale before left
  pub long : length before + length left ≡ length read + length rows
  pub counted : length left + counter ≤ length rows

-- at a record that is there
pub record AtRecord {R : Type 0} (remaining : R → Option (List ℕ)) (read rows : List (List (List ℕ))) (l : Loader) (old new : Records R) (counter : ℕ) : Type 0 where
  pub before : List (List (List ℕ))
  pub rest : List (List (List ℕ))
  pub at : HasLoaded l before
  pub whole : before ++ (record_fields new ∷ rest) ≡ read ++ rows
  pub number : record_number new ≡ length before + 1
  pub has_left : HasLeft remaining rest new
  pub fault : rows_fault (sizes l.format l.scale) read rows ≡ rows_fault (sizes l.format l.scale) before (record_fields new ∷ rest)
  pub long : length before + 1 + length rest ≡ length read + length rows
  pub counted : length rest + 1 + counter ≤ length rows
  pub few : sum (map length l.rows.histories.items) < 2 ^ 64

pub at_record : {R : Type 0} (remaining : R → Option (List ℕ)) (scale : Sizes) (read rows : List (List (List ℕ))) (l : Loader) (old new : Records R) (counter : ℕ) (found : Bool) → length read + length rows < 2 ^ 64 - 1
    → (g : GoesOnAt remaining scale read rows l old counter) → found ≡ true → ((left : List (List (List ℕ))) → HasLeft remaining left old → HasLeftAfter remaining left found new)
    → (record_number old < 2 ^ 64 - 1 → record_number new ≡ record_number old + 1) → AtRecord remaining read rows l old new counter
at_record remaining scale read rows l old new counter found few g is_found next number =
    let row = next_row remaining g.left found new is_found (next g.left g.has_left) in
    let one : length g.left ≡ length row.0 + 1 = let e = ap length row.1 in omega (arith, e) in
    let small : record_number old < 2 ^ 64 - 1 = let n = g.number in let long = g.long in omega (arith, n, long, few, one) in
    let counted = g.counted in
    let long = g.long in
    record {
      before = g.before;
      rest = row.0;
      at = g.at;
      whole = ap (λ l. g.before ++ l) (sym row.1) ∙ g.whole;
      number = number small ∙ ap (λ n. n + 1) g.number;
      has_left = row.2;
      fault = subst (λ s. rows_fault s read rows ≡ rows_fault s g.before (record_fields new ∷ row.0)) (sym g.same_scale) (g.fault ∙ ap (rows_fault scale g.before) row.1);
      long = omega (arith, long, one);
      counted = omega (arith, counted, one);
      few = few_payments_read l g.before g.at (omega (arith, long, few, one));
    }

-- a row's record has a word
pub row_done : (l m : Loader) (before : List (List (List ℕ))) (fields : List (List ℕ)) → IsDone Row l m fields → HasLoaded l before
    → (is_end fields ≡ false) × (sizes m.format m.scale ≡ sizes l.format l.scale) × HasLoaded m (before ++ (fields ∷ []))
row_done l m before [] done h = absurd done
row_done l m before (word ∷ fields) done h =
    (ap (λ w. bytes_eq w (codes "END")) done.is_letter ∙ letter_is_not_end done.table, (λ i. sizes (done.added.format i) (done.added.scale i)), record_loaded l m before word fields done h)

-- a row more was read
pub next_at : {R : Type 0} (remaining : R → Option (List ℕ)) (scale : Sizes) (read rows : List (List (List ℕ))) (l m : Loader) (old new : Records R) (counter : ℕ) → sizes l.format l.scale ≡ scale
    → (a : AtRecord remaining read rows l old new counter) → fields_fault (sizes l.format l.scale) (place_numbers l.last) (table_counts l.rows) (record_fields new) ≡ None → IsDone Row l m (record_fields new)
    → record_size (record_fields new) ≤ 65536 → GoesOnAt remaining scale read rows m new (counter + 1)
next_at remaining scale read rows l m old new counter same a none done short =
    let row = row_done l m a.before (record_fields new) done a.at in
    let passes = row_passes l a.before a.at (record_fields new) a.rest short none row.0 in
    let sizes_same : sizes m.format m.scale ≡ sizes l.format l.scale = row.1 in
    let pushed = length-append a.before (record_fields new ∷ []) in
    let number = a.number in
    let long = a.long in
    let counted = a.counted in
    record {
      before = a.before ++ (record_fields new ∷ []);
      left = a.rest;
      at = row.2;
      whole = append_assoc a.before (record_fields new ∷ []) a.rest ∙ a.whole;
      same_scale = sizes_same ∙ same;
      number = omega (arith, number, pushed);
      has_left = a.has_left;
      fault = subst (λ s. rows_fault s read rows ≡ rows_fault s (a.before ++ (record_fields new ∷ [])) a.rest) same (a.fault ∙ passes);
      long = omega (arith, long, pushed);
      counted = omega (arith, counted);
    }

-- the end record was read
pub end_at : {R : Type 0} (remaining : R → Option (List ℕ)) (scale : Sizes) (read rows : List (List (List ℕ))) (l m : Loader) (old new : Records R) (counter : ℕ) → sizes l.format l.scale ≡ scale
    → (a : AtRecord remaining read rows l old new counter) → fields_fault (sizes l.format l.scale) (place_numbers l.last) (table_counts l.rows) (record_fields new) ≡ None → IsDone End l m (record_fields new)
    → record_size (record_fields new) ≤ 65536 → ReachesEnd remaining scale read rows m new
end_at remaining scale read rows l m old new counter same a none done short =
    let passes = end_passes l a.before a.at (record_fields new) a.rest short none done.0 in
    record {
      before = a.before;
      end = record_fields new;
      more = a.rest;
      loaded = subst (λ k. HasLoaded k a.before) (sym done.1) a.at;
      are = sym a.whole;
      fault = subst (λ s. rows_fault s read rows ≡ behind_end (length a.before + 1) a.rest) same (a.fault ∙ passes) ∙ ap (λ n. behind_end n a.rest) (sym a.number);
      left = a.has_left;
      number = a.number;
    }

-- a record has a fault
pub fault_at_record : {R : Type 0} (remaining : R → Option (List ℕ)) (scale : Sizes) (read rows : List (List (List ℕ))) (l : Loader) (old new : Records R) (counter : ℕ) (error : FileError) → sizes l.format l.scale ≡ scale
    → (a : AtRecord remaining read rows l old new counter) → record_size (record_fields new) ≤ 65536
    → ReportsKind error (fields_fault (sizes l.format l.scale) (place_numbers l.last) (table_counts l.rows) (record_fields new)) (record_number new) → ReportsFault error (rows_fault scale read rows)
fault_at_record remaining scale read rows l old new counter error same a short reports =
    subst (λ s. ReportsFault error (rows_fault s read rows)) same
    (subst (ReportsFault error) (sym a.fault) (fault_found l a.before a.at (record_fields new) a.rest short error (record_number new) a.number reports))

module _ {R : Type 0} (remaining : R → Option (List ℕ)) (scale : Sizes) (read rows : List (List (List ℕ))) (l : Loader) (old new : Records R) (counter : ℕ) (few : length read + length rows < 2 ^ 64 - 1)
    (g : GoesOnAt remaining scale read rows l old counter) (number : record_number old < 2 ^ 64 - 1 → record_number new ≡ record_number old + 1) where
  next_number : record_number new ≡ length g.before + 1
  next_number = let n = g.number in let long = g.long in number (omega (arith, n, long, few)) ∙ ap (λ k. k + 1) n

  -- no further record could be read
  pub fault_advancing : (error : FileError) → (error ≡ NoMemory) ⊎ (error ≡ Failed (record_number new)) ⊎ (error ≡ file_fault fault.WrongShape (record_number new))
      → (error ≡ file_fault fault.WrongShape (record_number new) → (left : List (List (List ℕ))) → HasLeft remaining left old → FirstIsTooLong left) → ReportsFault error (rows_fault scale read rows)
  fault_advancing error faults long =
      not_advanced error (record_number new) (rows_fault scale read rows) faults
      (λ e. g.fault ∙ long_found scale g.before g.left (long e g.left g.has_left) ∙ ap (λ n. Some (fault_at fault.WrongShape n)) (sym next_number))

  -- there is none
  pub fault_at_last : (error : FileError) (found : Bool) → error ≡ file_fault fault.NoEnd (record_number new) → found ≡ false → ((left : List (List (List ℕ))) → HasLeft remaining left old → HasLeftAfter remaining left found new)
      → ReportsFault error (rows_fault scale read rows)
  fault_at_last error found is none next =
      let empty = no_row remaining g.left found new none (next g.left g.has_left) in
      subst (λ e. ReportsFault e (rows_fault scale read rows)) (sym is)
      (g.fault ∙ ap (rows_fault scale g.before) empty ∙ no_end scale g.before ∙ ap (λ n. Some (fault_at fault.NoEnd n)) (sym next_number))
