-- The first fault of a dataset, by its record and its kind.
use Rattle.std.specs.Prelude.{◌≡◌, ◌+◌, ◌-◌, ℕ, List, [], ◌∷◌, ◌++◌, length, drop, get_or, map, sum, Bool, false, ◌&&◌, ◌==◌, codes, Option, Some, None, MatchOption, unwrap_or, if◌then◌else◌}
use Rattle.std.specs.Str.{bytes_eq}
use Rattle.std.specs.Str.Parse.{digits_value}
use Rattle.schema.specs.Database.{Database, IsWithinScale}
use Rattle.files.specs.declared.fault.FaultKind.{FaultKind}
use Rattle.files.specs.declared.fault.FaultKind.TheVariants.{NoHeader, NoEnd, ScaleBroken}
use Rattle.files.specs.declared.fault.FileFault.{FileFault}
use Rattle.files.specs.declared.fault.FileError.{FileError}
use Rattle.files.specs.declared.fault.FileError.TheVariants.{NoMemory, Failed, File}
use Rattle.files.specs.Place.{Rows}
use Rattle.files.specs.FirstFault.{behind_end, fault_at, fault_or, unless_long}
use Rattle.dataset.specs.Columns.{Sizes, Table, Kind, Of, Ending, Items, Warehouses, Districts, Stocks, Customers, Histories, Orders, NewOrders, Lines, kind_of, letter, place_in, record_fault}
use Rattle.files.specs.Columns.{Column, Whole, columns_fault}
use Rattle.dataset.specs.declared.format.Format.{Format}
use Rattle.dataset.specs.declared.format.Format.TheVariants.{One, Two}
use Rattle.dataset.specs.Formats.{line_count, most_warehouses}
use Rattle.dataset.specs.Ranges.{InRange}
use Rattle.dataset.specs.Records.{AreRecordsOfEither}

-- ---- properties of the records before one

-- whether a record is of that table
abbrev pub is_of : Table → List (List ℕ) → Bool
is_of table [] = false
is_of table (word ∷ fields) = bytes_eq word (letter table)

-- the number of records of that table
unfoldable pub number_of : Table → Rows → ℕ
number_of table [] = 0
number_of table (row ∷ rows) = (if is_of table row then 1 else 0) + number_of table rows

-- the number of lines in a record, if it is an order's with lines
abbrev pub lines_in : List (List ℕ) → ℕ
lines_in [] = 0
lines_in (word ∷ fields) = if bytes_eq word (letter Orders) then line_count Two (length fields - 8) else 0

-- the number of lines: in format 1 of their records, in format 2 of those in the records of orders
abbrev pub number_of_lines : Format → Rows → ℕ
number_of_lines One rows = number_of Lines rows
number_of_lines Two rows = sum (map lines_in rows)

-- the number of rows of each table
abbrev pub counts : Format → Rows → List ℕ
counts format rows =
    number_of Items rows ∷ number_of Warehouses rows ∷ number_of Districts rows ∷ number_of Stocks rows
    ∷ number_of Customers rows ∷ number_of Histories rows ∷ number_of Orders rows ∷ number_of NewOrders rows
    ∷ number_of_lines format rows ∷ []

-- the place of a record of that kind; the header is before all tables
abbrev pub kind_place : Sizes → Option Kind → List (List ℕ) → List ℕ
kind_place scale (Some (Of table)) fields = place_in scale table fields
kind_place scale (Some Ending) fields = 0 ∷ []
kind_place scale None fields = 0 ∷ []

abbrev pub record_place : Sizes → List (List ℕ) → List ℕ
record_place scale [] = 0 ∷ []
record_place scale (word ∷ fields) = kind_place scale (kind_of scale.format word) fields

-- the place of the last of the records
abbrev pub last_place : Sizes → Rows → List ℕ
last_place scale [] = 0 ∷ []
last_place scale (row ∷ []) = record_place scale row
last_place scale (row ∷ next ∷ rows) = last_place scale (next ∷ rows)

-- whether a record is the end record
abbrev pub is_end : List (List ℕ) → Bool
is_end [] = false
is_end (word ∷ fields) = bytes_eq word (codes "END")

-- ---- the first fault

-- The first fault of the records that follow those before, the first of which is the header. Each record is compared
-- with those before it: it must follow the last of them, and the end record must count them.
unfoldable pub rows_fault : Sizes → Rows → Rows → Option FileFault
rows_fault scale before [] = Some (fault_at NoEnd (length before + 1))
rows_fault scale before (row ∷ rows) =
    fault_or (record_fault scale (last_place scale before) (counts scale.format before) row) (length before + 1)
    (if is_end row then behind_end (length before + 1) rows else rows_fault scale (before ++ row ∷ []) rows)

-- the three numbers of a header
abbrev pub header_columns : Format → List Column
header_columns format = Whole 1 (most_warehouses format) ∷ Whole 1 100000 ∷ Whole 1 3000 ∷ []

-- the format that a number stands for
abbrev pub format_of : List ℕ → Option Format
format_of word = if bytes_eq word (codes "1") then Some One else (if bytes_eq word (codes "2") then Some Two else None)

-- the format of a header, which has five fields: a name, the number of the format, and those three numbers
abbrev pub header_format : List (List ℕ) → Option Format
header_format fields =
    if length fields == 5 && bytes_eq (get_or fields 0 []) (codes "TPCC") then format_of (get_or fields 1 []) else None

-- the format and the numbers of a header
abbrev pub header_sizes : List (List ℕ) → Sizes
header_sizes fields = record {
  format = unwrap_or (header_format fields) One;
  warehouses = digits_value 10 (get_or fields 2 []);
  items = digits_value 10 (get_or fields 3 []);
  customers = digits_value 10 (get_or fields 4 []);
}

-- the fault of the numbers of a header in that format; NoHeader if it is in none
abbrev pub numbers_fault : Option Format → List (List ℕ) → Option FaultKind
numbers_fault None fields = Some NoHeader
numbers_fault (Some format) fields = columns_fault (header_columns format) (drop 2 fields)

-- the fault of the first record, regardless of its length, and below including that of its length
abbrev pub reported_header : List (List ℕ) → Option FaultKind
reported_header fields = numbers_fault (header_format fields) fields

abbrev pub header_fault : List (List ℕ) → Option FaultKind
header_fault fields = unless_long fields (reported_header fields)

-- the first fault of a text up to its first record, which is the header
abbrev pub header_first : Rows → Option FileFault
header_first [] = Some (fault_at NoHeader 1)
header_first (header ∷ rows) = fault_or (header_fault header) 1 None

-- the first fault of a text with these records, except a broken rule of the scale
unfoldable pub first_fault : Rows → Option FileFault
first_fault [] = Some (fault_at NoHeader 1)
first_fault (header ∷ rows) = fault_or (header_fault header) 1 (rows_fault (header_sizes header) (header ∷ []) rows)

-- no tables within their scale have these records, in either format
abbrev pub HasNoTables : Rows → Type 0
HasNoTables rows = (t : Database) → IsWithinScale t → InRange t → AreRecordsOfEither t rows → ⊥

-- The fault of a text with these records: the first one. If there is none, but no tables have the records, it is
-- ScaleBroken at the end record.
abbrev pub IsFaultOf : Rows → FileFault → Type 0
IsFaultOf rows fault =
    MatchOption (first_fault rows) ((fault ≡ fault_at ScaleBroken (length rows)) × HasNoTables rows) (λ first. fault ≡ first)

-- the error is a fault of the text: not out of memory, and not a failed read
abbrev pub IsFault : FileError → Type 0
IsFault NoMemory = ⊥
IsFault (Failed number) = ⊥
IsFault (File fault) = Unit {0}

-- an error for a text with these records: its fault, or out of memory, or a failed read
abbrev pub Reports : Rows → FileError → Type 0
Reports rows NoMemory = Unit {0}
Reports rows (Failed number) = Unit {0}
Reports rows (File fault) = IsFaultOf rows fault
