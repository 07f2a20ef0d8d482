-- A row's record, taken as its table's columns.
use Rattle.std.proofs.Common.{◌≡◌, ℕ, zero, suc, ◌-◌, ◌&&◌, List, [], ◌∷◌, ◌++◌, map, take, drop, length, Bool, true, false, Option, Some, None, Ok, is_none, refl, sym, ap, subst, ◌∙◌}
use Rattle.std.specs.Str.Parse.{digits_value}
use Rattle.std.proofs.lemmas.List.{append-nil}
use Rattle.files.specs.declared.fault.FaultKind.{FaultKind}
use Rattle.files.specs.declared.fields.Fields.{Fields}
use Rattle.files.specs.Columns.{Column, Whole, at_end, columns_fault, take_columns}
use Rattle.files.specs.FieldRead.{FieldsView, fields_view, is_within, whole_read}
use Rattle.files.specs.Number.{is_number}
use Rattle.files.specs.Taken.{fault_of, fields_left}
use Rattle.schema.specs.declared.table_rows.TableRows.{TableRows}
use Rattle.dataset.specs.declared.loader.Loader.{Loader}
use Rattle.dataset.specs.declared.place.Place.{Place}
use Rattle.dataset.specs.Columns.{Sizes, Table, Items, Orders, ascend_from, comes_after, has_ascending_lines, key_columns, line_numbers, lines_columns, or_order, other_columns, place_in, record_columns, sizes, table_number}
use Rattle.dataset.specs.Formats.{line_count, most_lines}
use Rattle.rows.specs.declared.keys.OrderKey.{OrderKey}
use Rattle.dataset.specs.Order.{follows, place_numbers}
use Rattle.dataset.specs.TableRow.{AddsRow, IsAdded, TableRow, has_rising_lines, lines_made, numbers_of, row_follows, row_of, row_place, row_read}
use Rattle.dataset.specs.TakenAs.{IsRowOf}
use Rattle.files.specs.Columns.{Value, Values, read_columns}
use Rattle.files.proofs.ColumnValues.{AreRead, ReadsColumns, clean, read-take}
use Rattle.dataset.proofs.LetterFault.{end_none}

-- ---- the numbers of a key

number_in : (column : Column) → Value column → ℕ
number_in (Whole low high) n = n
number_in column v = 0

-- the numbers of the first columns
numbers_in : (keys others : List Column) → Values (keys ++ others) → List ℕ
numbers_in [] others values = []
numbers_in (column ∷ keys) others values = number_in column values.0 ∷ numbers_in keys others values.1

-- columns of whole numbers
AreWhole : List Column → Type 0
AreWhole [] = Unit {0}
AreWhole (Whole low high ∷ columns) = AreWhole columns
AreWhole (column ∷ columns) = ⊥

-- a number that was read has the value of its digits
whole_is : (low high n : ℕ) (text : List ℕ) → whole_read low high text ≡ Ok n → digits_value 10 text ≡ n
whole_is low high n text e = by (is_number text) refl (is_within low high text) refl
  where
    by : (b : Bool) → is_number text ≡ b → (w : Bool) → is_within low high text ≡ w → digits_value 10 text ≡ n
    by false number w is = let no = rw number at e in absurd cc
    by true number false is = let no = rw (number, is) at e in absurd cc
    by true number true is = let v = rw (number, is) at e in cc

numbers_read : (keys others : List Column) (values : Values (keys ++ others)) (texts rest : List (List ℕ)) → AreWhole keys → AreRead (keys ++ others) values texts
    → numbers_in keys others values ≡ map (digits_value 10) (take (length keys) (texts ++ rest))
unfolding AreRead AreWhole numbers_in number_in
numbers_read [] others values texts rest whole read = refl
numbers_read (Whole low high ∷ keys) others values [] rest whole read = absurd read
numbers_read (Whole low high ∷ keys) others values (text ∷ texts) rest whole read =
    let first : values.0 ≡ digits_value 10 text = sym (whole_is low high values.0 text read.0) in
    let more = numbers_read keys others values.1 texts rest whole read.1 in
    λ i. first i ∷ more i
numbers_read (column ∷ keys) others values texts rest whole read = absurd whole

whole_keys : (s : Sizes) (table : Table) → AreWhole (key_columns s table)
unfolding AreWhole
whole_keys s Items = tt
whole_keys s table = tt

-- a row's place has its table's number and its key's
place_reported : (s : Sizes) (table : Table) (count : ℕ) (values : Values (record_columns s table count))
    → place_numbers (row_place (row_of s table count values)) ≡ table_number table ∷ numbers_in (key_columns s table) (other_columns s table count) values
unfolding numbers_in number_in
place_reported s Items count values = refl
place_reported s table count values = refl

-- whether a record follows is determined by the numbers alone
pub follows_reported : (s : Sizes) (table : Table) (count : ℕ) (values : Values (record_columns s table count)) (last : Place)
    → follows (row_place (row_of s table count values)) last ≡ comes_after table (place_numbers (row_place (row_of s table count values))) (place_numbers last)
follows_reported s Items count values last = refl
follows_reported s table count values last = refl

-- ---- the numbers of lines

-- the numbers of lines are those of their fields
numbers_made : (s : Sizes) (order : OrderKey) (n : ℕ) (values : Values (lines_columns s n)) (texts : List (List ℕ)) → AreRead (lines_columns s n) values texts
    → numbers_of (lines_made s order n values) ≡ line_numbers n texts
unfolding AreRead
numbers_made s order zero values texts read = refl
numbers_made s order (suc n) values [] read = absurd read
numbers_made s order (suc n) values (a ∷ []) read = absurd read.1
numbers_made s order (suc n) values (a ∷ b ∷ []) read = absurd read.1.1
numbers_made s order (suc n) values (a ∷ b ∷ c ∷ []) read = absurd read.1.1.1
numbers_made s order (suc n) values (a ∷ b ∷ c ∷ d ∷ []) read = absurd read.1.1.1.1
numbers_made s order (suc n) values (a ∷ b ∷ c ∷ d ∷ e ∷ []) read = absurd read.1.1.1.1.1
numbers_made s order (suc n) values (a ∷ b ∷ c ∷ d ∷ e ∷ f ∷ []) read = absurd read.1.1.1.1.1.1
numbers_made s order (suc n) values (a ∷ b ∷ c ∷ d ∷ e ∷ f ∷ g ∷ texts) read =
    let first : values.0 ≡ digits_value 10 a = sym (whole_is 1 (most_lines s.format) values.0 a read.0) in
    let more = numbers_made s order n values.1.1.1.1.1.1.1 texts read.1.1.1.1.1.1.1 in
    λ i. first i ∷ more i

-- the columns of an order before its lines
abbrev behind_eight : (s : Sizes) (count : ℕ) → Values (record_columns s Orders count) → Values (lines_columns s (line_count s.format (count - 8)))
behind_eight s count values = values.1.1.1.1.1.1.1.1

eight_read : (s : Sizes) (count : ℕ) (values : Values (record_columns s Orders count)) (texts : List (List ℕ)) → AreRead (record_columns s Orders count) values texts
    → AreRead (lines_columns s (line_count s.format (count - 8))) (behind_eight s count values) (drop 8 texts)
unfolding AreRead
eight_read s count values [] read = absurd read
eight_read s count values (a ∷ []) read = absurd read.1
eight_read s count values (a ∷ b ∷ []) read = absurd read.1.1
eight_read s count values (a ∷ b ∷ c ∷ []) read = absurd read.1.1.1
eight_read s count values (a ∷ b ∷ c ∷ d ∷ []) read = absurd read.1.1.1.1
eight_read s count values (a ∷ b ∷ c ∷ d ∷ e ∷ []) read = absurd read.1.1.1.1.1
eight_read s count values (a ∷ b ∷ c ∷ d ∷ e ∷ f ∷ []) read = absurd read.1.1.1.1.1.1
eight_read s count values (a ∷ b ∷ c ∷ d ∷ e ∷ f ∷ g ∷ []) read = absurd read.1.1.1.1.1.1.1
eight_read s count values (a ∷ b ∷ c ∷ d ∷ e ∷ f ∷ g ∷ h ∷ texts) read = read.1.1.1.1.1.1.1.1

-- whether the lines rise is determined by the fields
rises_reported : (s : Sizes) (table : Table) (fields : List (List ℕ)) (values : Values (record_columns s table (length fields))) → AreRead (record_columns s table (length fields)) values fields
    → has_rising_lines (row_of s table (length fields) values) ≡ has_ascending_lines s table fields
rises_reported s Orders fields values read =
    let n = line_count s.format (length fields - 8) in
    let order : OrderKey = record { w_id = values.0; d_id = values.1.0; o_id = values.1.1.0 } in
    ap (ascend_from 0) (numbers_made s order n (behind_eight s (length fields) values) (drop 8 fields) (eight_read s (length fields) values fields read))
rises_reported s Items fields values read = refl
rises_reported s table fields values read = refl

-- ---- a record whose fields have no fault

pub record IsRead (s : Sizes) (table : Table) (fields : List (List ℕ)) : Type 0 where
  pub are_read : AreRead (record_columns s table (length fields)) (read_columns (record_columns s table (length fields)) (record { left = fields; fault = None })).0 fields
  pub place : place_numbers (row_place (row_read s table fields)) ≡ place_in s table fields
  pub rises : has_rising_lines (row_read s table fields) ≡ has_ascending_lines s table fields
  pub follow : (last : Place)
      → row_follows (row_read s table fields) last ≡ (has_ascending_lines s table fields && comes_after table (place_in s table fields) (place_numbers last))

pub is_read : (s : Sizes) (table : Table) (fields : List (List ℕ)) → columns_fault (record_columns s table (length fields)) fields ≡ None → IsRead s table fields
is_read s table fields none =
    let count = length fields in
    let columns = record_columns s table count in
    let start : FieldsView = record { left = fields; fault = None } in
    let ended = end_none (take_columns columns start).left (take_columns columns start).fault none in
    let same = read-take columns start in
    let read = clean columns start (ap (λ (t : FieldsView). t.fault) same ∙ ended.1) in
    let all : fields ≡ read.texts ++ [] = read.are ∙ ap (λ l. read.texts ++ l) (ap (λ (t : FieldsView). t.left) same ∙ ended.0) in
    let values = (read_columns columns start).0 in
    let numbers = numbers_read (key_columns s table) (other_columns s table count) values read.texts [] (whole_keys s table) read.are_read in
    let are : AreRead columns values fields = subst (AreRead columns values) (sym (all ∙ append-nil read.texts)) read.are_read in
    let place : place_numbers (row_place (row_read s table fields)) ≡ place_in s table fields =
    place_reported s table count values ∙ ap (λ ns. table_number table ∷ ns) (numbers ∙ ap (λ l. map (digits_value 10) (take (length (key_columns s table)) l)) (sym all)) in
    let rises = rises_reported s table fields values are in
    record {
      are_read = are;
      place = place;
      rises = rises;
      follow = λ last. ap (λ b. b && follows (row_place (row_read s table fields)) last) rises
          ∙ ap (λ b. has_ascending_lines s table fields && b) (follows_reported s table count values last ∙ ap (λ p. comes_after table p (place_numbers last)) place);
    }

-- ---- the record of a row, taken

order_alike : (fault : Option FaultKind) (a b : Bool) → (fault ≡ None → a ≡ b) → or_order fault a ≡ or_order fault b
order_alike None a b same = ap (or_order None) (same refl)
order_alike (Some kind) a b same = refl

-- where these fields were read as that row, they are a row's of the table, whatever the loader does with it
abbrev pub TakesRow : Table → Loader → TableRow → Fields → Fields → Type 0
TakesRow table l row old read =
    (m : Loader) (new : Fields)
    → fault_of new ≡ or_order (at_end (fields_left read) (fault_of read)) (row_follows row l.last) → (fault_of new ≡ None → IsAdded row l m)
    → fault_of old ≡ None → IsRowOf table l m old new

pub row_taken : (table : Table) (l : Loader) (row : TableRow) (old read : Fields) {values : Values (record_columns (sizes l.format l.scale) table (length (fields_left old)))}
    → ReadsColumns (record_columns (sizes l.format l.scale) table (length (fields_left old))) values (fields_view old) (fields_view read)
    → row ≡ row_of (sizes l.format l.scale) table (length (fields_left old)) values → TakesRow table l row old read
row_taken table l row old read {values} reads is = λ m new stood added none.
    let s = sizes l.format l.scale in
    let fields = fields_left old in
    let count = length fields in
    let columns = record_columns s table count in
    let start : fields_view old ≡ record { left = fields; fault = None } = ap (λ (f : Option FaultKind). record { left = fields; fault = f }) none in
    let from_start = reads.is ∙ ap (read_columns columns) start in
    let row_is : row ≡ row_read s table fields = is ∙ ap (λ (p : Values columns × FieldsView). row_of s table count p.0) from_start in
    let after : fields_view read ≡ take_columns columns (record { left = fields; fault = None }) = ap (λ (p : Values columns × FieldsView). p.1) from_start ∙ read-take columns (record { left = fields; fault = None }) in
    let ended : at_end (fields_left read) (fault_of read) ≡ columns_fault columns fields = ap (λ (t : FieldsView). at_end t.left t.fault) after in
    let asked = has_ascending_lines s table fields && comes_after table (place_in s table fields) (place_numbers l.last) in
    let in_order : columns_fault columns fields ≡ None → row_follows row l.last ≡ asked = λ free.
    ap (λ r. row_follows r l.last) row_is ∙ (is_read s table fields free).follow l.last in
    record {
      fault = stood ∙ ap (λ f. or_order f (row_follows row l.last)) ended
          ∙ order_alike (columns_fault columns fields) (row_follows row l.last) asked in_order;
      added = λ free. subst (λ r. IsAdded r l m) row_is (added free);
    }

-- the row was added at the loader's place
pub added_at : {row : TableRow} {l stood : Loader} {new : TableRows} → stood ≡ record l { last = row_place row } → AddsRow stood.scale row stood.rows new → IsAdded row l (record stood { rows = new })
added_at {row} {l} {stood} {new} same adds = record {
  format = ap (λ (s : Loader). s.format) same;
  scale = ap (λ (s : Loader). s.scale) same;
  last = ap (λ (s : Loader). s.last) same;
  rows = subst (λ (s : Loader). AddsRow s.scale row s.rows new) same adds;
}

-- a record with a fault adds none
pub none_added : {row : TableRow} {l m : Loader} {known : Option FaultKind} {free : Bool} → free ≡ is_none known → free ≡ false → known ≡ None → IsAdded row l m
none_added {row} {l} {m} {known} {free} is not e = let clash : true ≡ false = sym (is ∙ ap is_none e) ∙ not in absurd cc
