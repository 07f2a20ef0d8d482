-- Records that were taken, and their faults.
use Rattle.std.specs.Prelude.{◌≡◌, ◌+◌, ◌⊎◌, ◌≤◌, ℕ, List, [], ◌∷◌, ◌++◌, length, Option, Some, None, Result, Ok, Err, Bool, true}
use Rattle.rows.specs.declared.keys.OrderKey.{OrderKey}
use Rattle.rows.specs.declared.keys.OrderLineKey.{OrderLineKey}
use Rattle.rows.specs.declared.records.OrderLine.{OrderLine}
use Rattle.schema.specs.declared.scale.Scale.{Scale}
use Rattle.schema.specs.Database.{Database, IsWithinScale}
use Rattle.files.specs.declared.fault.FaultKind.{FaultKind}
use Rattle.files.specs.declared.fault.FaultKind.TheVariants.{ScaleBroken}
use Rattle.files.specs.declared.fault.FileError.{FileError}
use Rattle.files.specs.declared.fault.FileError.TheVariants.{NoMemory, Failed, File}
use Rattle.files.specs.declared.records.Records.{Records}
use Rattle.files.specs.Place.{Rows, HasLeft, record_number}
use Rattle.files.specs.declared.fields.Fields.{Fields}
use Rattle.files.specs.Taken.{fault_of, fields_left}
use Rattle.dataset.specs.declared.loader.Loader.{Loader}
use Rattle.dataset.specs.declared.loader.Taken.{Taken}
use Rattle.dataset.specs.declared.loader.Taken.TheVariants.{Row, End}
use Rattle.dataset.specs.Columns.{Sizes, Table, Of, ascend_from, fields_fault, kind_fault, kind_of, letter, lines_columns, sizes}
use Rattle.files.specs.Columns.{Reads, columns_fault}
use Rattle.files.specs.FirstFault.{ReportsKind, behind_end, fault_at}
use Rattle.dataset.specs.FirstFault.{first_fault, header_columns, is_end, rows_fault, reported_header}
use Rattle.dataset.specs.Loading.{HasLoaded}
use Rattle.dataset.specs.Order.{place_numbers}
use Rattle.dataset.specs.Payments.{AreCountable}
use Rattle.dataset.specs.Ranges.{InRange}
use Rattle.dataset.specs.declared.header.Header.{Header}
use Rattle.dataset.specs.declared.format.Format.{Format}
use Rattle.dataset.specs.Formats.{line_count, most_warehouses}
use Rattle.dataset.specs.Records.{AreRecordsOfEither, AreSpelt, IsHeader, scale_fields}
use Rattle.dataset.specs.TableRow.{IsAdded, insert_lines, lines_made, numbers_of, row_read}
use Rattle.dataset.specs.Writing.{count_fields, table_counts}

-- the fields after the letter were taken as those of a row of that table: with their fault, or their row was added to
-- the loader
pub record IsRowOf (table : Table) (l m : Loader) (old new : Fields) : Type 0 where
  pub fault : fault_of new ≡ kind_fault (sizes l.format l.scale) (place_numbers l.last) [] (Some (Of table)) (fields_left old)
  pub added : fault_of new ≡ None → IsAdded (row_read (sizes l.format l.scale) table (fields_left old)) l m

-- the same, if no fault was noted before
abbrev pub TakesRow : Table → Loader → Loader → Fields → Fields → Type 0
TakesRow table l m old new = fault_of old ≡ None → IsRowOf table l m old new

-- a row's record has no fault, and its row was added to the loader
pub record HasRow (l m : Loader) (word : List ℕ) (fields : List (List ℕ)) : Type 0 where
  pub table : Table
  pub is_letter : word ≡ letter table
  pub is_kind : kind_of l.format word ≡ Some (Of table)
  pub none : kind_fault (sizes l.format l.scale) (place_numbers l.last) [] (Some (Of table)) fields ≡ None
  pub added : IsAdded (row_read (sizes l.format l.scale) table fields) l m

-- a record without a fault was taken: a row's, or the end record of the loader's rows
abbrev pub IsDone : Taken → Loader → Loader → List (List ℕ) → Type 0
IsDone Row l m [] = ⊥
IsDone Row l m (word ∷ fields) = HasRow l m word fields
IsDone End l m fields = (is_end fields ≡ true) × (m ≡ l) × AreSpelt (count_fields l.rows) fields

-- the fields of a record were taken
pub record IsTakenAs (taken : Taken) (l m : Loader) (old new : Fields) : Type 0 where
  pub fault : AreCountable l.rows.histories.items
      → fault_of new ≡ fields_fault (sizes l.format l.scale) (place_numbers l.last) (table_counts l.rows) (fields_left old)
  pub done : fault_of new ≡ None → IsDone taken l m (fields_left old)

-- so many lines of the order were read
abbrev pub ReadsLines : Sizes → OrderKey → ℕ → List (OrderLineKey × OrderLine) → Fields → Fields → Type 0
ReadsLines scale order n lines old new = Reads (lines_columns scale n) (lines_made scale order n) lines old new

-- the lines that are left in an order's record were taken, as many as the fields that are left make, and added to the
-- loader's rows; ascending tells whether their numbers ascend
pub record TakesLines (order : OrderKey) (ascending : Bool) (l m : Loader) (old new : Fields) : Type 0 where
  pub lines : List (OrderLineKey × OrderLine)
  pub read : ReadsLines (sizes l.format l.scale) order (line_count l.format (length (fields_left old))) lines old new
  pub ascend : ascending ≡ ascend_from 0 (numbers_of lines)
  pub added : m ≡ record l { rows = record l.rows { lines = insert_lines l.rows.lines lines } }

-- the numbers of a header in that format were read: as a scale, or with their fault
abbrev pub IsScaleAs : Format → Result Scale FaultKind → List (List ℕ) → Type 0
IsScaleAs format (Ok scale) fields =
    (columns_fault (header_columns format) fields ≡ None) × (scale.warehouses ≤ most_warehouses format) × AreSpelt (scale_fields scale) fields
IsScaleAs format (Err kind) fields = columns_fault (header_columns format) fields ≡ Some kind

-- a header was read: as its format and scale, or with its fault
abbrev pub IsHeaderAs : Result Header FaultKind → List (List ℕ) → Type 0
IsHeaderAs (Ok header) fields = reported_header fields ≡ None
IsHeaderAs (Err kind) fields = reported_header fields ≡ Some kind

-- the record with that number was read: it has no fault, or the error reports its fault
abbrev pub IsReadAs : Result Taken FileError → Loader → List (List ℕ) → ℕ → Type 0
IsReadAs (Ok taken) l fields number = fields_fault (sizes l.format l.scale) (place_numbers l.last) (table_counts l.rows) fields ≡ None
IsReadAs (Err error) l fields number =
    ReportsKind error (fields_fault (sizes l.format l.scale) (place_numbers l.last) (table_counts l.rows) fields) number

-- the end record of these records was read, and more records may be left
pub record ReachesEnd {R : Type 0} (remaining : R → Option (List ℕ)) (scale : Sizes) (read rows : Rows) (l : Loader) (r : Records R) : Type 0 where
  pub before : Rows
  pub end : List (List ℕ)
  pub more : Rows
  pub loaded : HasLoaded l before
  pub are : read ++ rows ≡ before ++ end ∷ more
  pub fault : rows_fault scale read rows ≡ behind_end (record_number r) more
  pub left : HasLeft remaining more r
  pub number : record_number r ≡ length before + 1

-- the header of these records was read, and it has no fault
pub record BeginsDataset {R : Type 0} (remaining : R → Option (List ℕ)) (header : Header) (rows : Rows) (r : Records R) : Type 0 where
  pub fields : List (List ℕ)
  pub more : Rows
  pub are : rows ≡ fields ∷ more
  pub is_header : IsHeader header.format header.scale fields
  pub fault : first_fault rows ≡ rows_fault (sizes header.format header.scale) (fields ∷ []) more
  pub left : HasLeft remaining more r
  pub number : record_number r ≡ 1

-- no tables within their scale have the records that were read, followed by an end record
abbrev pub HasReadNoTables : Loader → Type 0
HasReadNoTables l =
    (t : Database) (read : Rows) (end : List (List ℕ))
    → IsWithinScale t → InRange t → HasLoaded l read → AreRecordsOfEither t (read ++ end ∷ []) → ⊥

-- an error after the end record, which has that number: more records are left, or a rule of the scale is broken
abbrev pub ReportsEnd : FileError → Loader → Rows → ℕ → Type 0
ReportsEnd NoMemory l more number = Unit {0}
ReportsEnd (Failed at) l more number = Unit {0}
ReportsEnd (File fault) l more number =
    (behind_end number more ≡ Some fault) ⊎ ((more ≡ []) × (fault ≡ fault_at ScaleBroken number) × HasReadNoTables l)
