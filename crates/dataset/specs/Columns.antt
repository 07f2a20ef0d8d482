-- The columns of a dataset's records, and the faults of a record.
use Rattle.std.specs.Prelude.{ℕ, zero, suc, ◌-◌, List, [], ◌∷◌, ◌++◌, map, take, drop, get_or, length, nat_lt, Bool, true, false, ◌&&◌, codes, Option, Some, None, if◌then◌else◌}
use Rattle.std.specs.Ordering.{nat_cmp, is_le, is_lt}
use Rattle.std.specs.Cmp.Lexicographic.{slice_cmp}
use Rattle.std.specs.Str.{bytes_eq}
use Rattle.std.specs.Str.Parse.{digits_value}
use Rattle.schema.specs.declared.scale.Scale.{Scale}
use Rattle.files.specs.declared.fault.FaultKind.{FaultKind}
use Rattle.files.specs.declared.fault.FaultKind.TheVariants.{WrongShape, OutOfOrder}
use Rattle.files.specs.Columns.{Column, Whole, Words, Cents, Moment, Credit, MaybeWhole, MaybeMoment, Count, columns_fault}
use Rattle.files.specs.FirstFault.{unless_long}
use Rattle.dataset.specs.declared.format.Format.{Format}
use Rattle.dataset.specs.declared.format.Format.TheVariants.{One, Two}
use Rattle.dataset.specs.Formats.{line_count, most_lines}

-- ---- the tables and their columns

-- the format, and the numbers of warehouses, of items, and of customers of a district in a header
pub record Sizes : Type 0 where
  pub format : Format
  pub warehouses : ℕ
  pub items : ℕ
  pub customers : ℕ

abbrev pub sizes : Format → Scale → Sizes
sizes format scale = record { format = format; warehouses = scale.warehouses; items = scale.items; customers = scale.customers }

-- the nine tables
pub data Table : Type 0 where
  Items : Table
  Warehouses : Table
  Districts : Table
  Stocks : Table
  Customers : Table
  Histories : Table
  Orders : Table
  NewOrders : Table
  Lines : Table

-- the letter that begins the records of a table
abbrev pub letter : Table → List ℕ
letter Items = codes "I"
letter Warehouses = codes "W"
letter Districts = codes "D"
letter Stocks = codes "S"
letter Customers = codes "C"
letter Histories = codes "H"
letter Orders = codes "O"
letter NewOrders = codes "N"
letter Lines = codes "L"

-- the number of a table in the order of a dataset, from 1
abbrev pub table_number : Table → ℕ
table_number Items = 1
table_number Warehouses = 2
table_number Districts = 3
table_number Stocks = 4
table_number Customers = 5
table_number Histories = 6
table_number Orders = 7
table_number NewOrders = 8
table_number Lines = 9

-- W_ID and D_ID, for so many warehouses
abbrev pub district_key : ℕ → List Column
district_key warehouses = Whole 1 warehouses ∷ Whole 1 10 ∷ []

-- W_ID, D_ID and C_ID, for so many warehouses and customers of a district
abbrev pub customer_key : ℕ → ℕ → List Column
customer_key warehouses customers = Whole 1 warehouses ∷ Whole 1 10 ∷ Whole 1 customers ∷ []

-- W_ID, D_ID and O_ID, for so many warehouses
abbrev pub order_key : ℕ → List Column
order_key warehouses = Whole 1 warehouses ∷ Whole 1 10 ∷ Whole 1 9999999 ∷ []

-- the columns after the letter that determine the place of a record: its key, or for HISTORY the district
abbrev pub key_columns : Sizes → Table → List Column
key_columns scale Items = Whole 1 scale.items ∷ []
key_columns scale Warehouses = Whole 1 scale.warehouses ∷ []
key_columns scale Districts = district_key scale.warehouses
key_columns scale Stocks = Whole 1 scale.warehouses ∷ Whole 1 scale.items ∷ []
key_columns scale Customers = customer_key scale.warehouses scale.customers
key_columns scale Histories = district_key scale.warehouses
key_columns scale Orders = order_key scale.warehouses
key_columns scale NewOrders = order_key scale.warehouses
key_columns scale Lines = Whole 1 scale.warehouses ∷ Whole 1 10 ∷ Whole 1 9999999 ∷ Whole 1 (most_lines scale.format) ∷ []

-- street_1, street_2, city, state and zip
abbrev pub address_columns : List Column
address_columns = Words 20 ∷ Words 20 ∷ Words 20 ∷ Words 2 ∷ Words 9 ∷ []

-- S_DIST_01 to S_DIST_10
abbrev pub info_columns : List Column
info_columns =
    Words 24 ∷ Words 24 ∷ Words 24 ∷ Words 24 ∷ Words 24 ∷ Words 24 ∷ Words 24 ∷ Words 24 ∷ Words 24 ∷ Words 24 ∷ []

-- a counter that only grows
abbrev pub counter : Column
counter = Whole 0 999999999

-- the columns of ORDER-LINE after its key, for so many items and warehouses
abbrev pub line_row_columns : ℕ → ℕ → List Column
line_row_columns items warehouses =
    Whole 1 items ∷ Whole 1 warehouses ∷ MaybeMoment ∷ Whole 1 10 ∷ Whole 0 999999 ∷ Words 24 ∷ []

-- so many lines in the record of an order: OL_NUMBER and the columns of ORDER-LINE after its key
abbrev pub lines_columns : Sizes → ℕ → List Column
lines_columns scale zero = []
lines_columns scale (suc n) =
    Whole 1 (most_lines scale.format) ∷ line_row_columns scale.items scale.warehouses ++ lines_columns scale n

-- the columns after the key, in a record with so many fields after the letter; in format 2 those of an order are followed
-- by those of its lines
abbrev pub other_columns : Sizes → Table → ℕ → List Column
other_columns scale Items count = Whole 1 10000 ∷ Words 24 ∷ Whole 1 99999 ∷ Words 50 ∷ []
other_columns scale Warehouses count = Words 10 ∷ address_columns ++ Whole 0 9999 ∷ Cents ∷ []
other_columns scale Districts count = Words 10 ∷ address_columns ++ Whole 0 9999 ∷ Cents ∷ Whole 1 10000000 ∷ []
other_columns scale Stocks count = Whole 10 100 ∷ info_columns ++ counter ∷ counter ∷ counter ∷ Words 50 ∷ []
other_columns scale Customers count =
    Words 16 ∷ Words 2 ∷ Words 16 ∷ address_columns ++ Words 16 ∷ Moment ∷ Credit
    ∷ Cents ∷ Whole 0 9999 ∷ Cents ∷ Cents ∷ counter ∷ counter ∷ Words 500 ∷ []
other_columns scale Histories count = customer_key scale.warehouses scale.customers ++ Moment ∷ Cents ∷ Words 24 ∷ []
other_columns scale Orders count =
    Whole 1 scale.customers ∷ Moment ∷ MaybeWhole 1 10 ∷ Whole 1 (most_lines scale.format) ∷ Whole 0 1
    ∷ lines_columns scale (line_count scale.format (count - 8))
other_columns scale NewOrders count = []
other_columns scale Lines count = line_row_columns scale.items scale.warehouses

-- all columns after the letter, in a record with so many fields after it
abbrev pub record_columns : Sizes → Table → ℕ → List Column
record_columns scale table count = key_columns scale table ++ other_columns scale table count

-- ---- the fault of a record

-- what a record is by its first field: a table's row, or the end record
pub data Kind : Type 0 where
  Of : Table → Kind
  Ending : Kind

-- only format 1 has records of ORDER-LINE
abbrev pub line_kind : Format → Option Kind
line_kind One = Some (Of Lines)
line_kind Two = None

abbrev pub kind_of : Format → List ℕ → Option Kind
kind_of format word =
    if bytes_eq word (letter Items) then Some (Of Items)
    else (if bytes_eq word (letter Warehouses) then Some (Of Warehouses)
    else (if bytes_eq word (letter Districts) then Some (Of Districts)
    else (if bytes_eq word (letter Stocks) then Some (Of Stocks)
    else (if bytes_eq word (letter Customers) then Some (Of Customers)
    else (if bytes_eq word (letter Histories) then Some (Of Histories)
    else (if bytes_eq word (letter Orders) then Some (Of Orders)
    else (if bytes_eq word (letter NewOrders) then Some (Of NewOrders)
    else (if bytes_eq word (letter Lines) then line_kind format
    else (if bytes_eq word (codes "END") then Some Ending else None)))))))))

-- the place of a table's record: the table's number, and the numbers of its key
abbrev pub place_in : Sizes → Table → List (List ℕ) → List ℕ
place_in scale table fields = table_number table ∷ map (digits_value 10) (take (length (key_columns scale table)) fields)

-- Whether a table's record may directly follow one at the place last. Only rows of HISTORY, which have no key, may
-- share a place.
abbrev pub comes_after : Table → List ℕ → List ℕ → Bool
comes_after Histories place last = is_le (slice_cmp nat_cmp last place)
comes_after table place last = is_lt (slice_cmp nat_cmp last place)

-- whether the numbers ascend, and the first is above low
abbrev pub ascend_from : ℕ → List ℕ → Bool
ascend_from low [] = true
ascend_from low (number ∷ numbers) = nat_lt low number && ascend_from number numbers

-- the numbers of so many lines, each the first of seven fields
abbrev pub line_numbers : ℕ → List (List ℕ) → List ℕ
line_numbers zero fields = []
line_numbers (suc n) fields = digits_value 10 (get_or fields 0 []) ∷ line_numbers n (drop 7 fields)

-- whether the numbers of the lines in a table's record, if there are any, ascend
abbrev pub has_ascending_lines : Sizes → Table → List (List ℕ) → Bool
has_ascending_lines scale Orders fields = ascend_from 0 (line_numbers (line_count scale.format (length fields - 8)) (drop 8 fields))
has_ascending_lines scale table fields = true

-- the given fault, otherwise OutOfOrder if the record is out of order
abbrev pub or_order : Option FaultKind → Bool → Option FaultKind
or_order (Some kind) in_order = Some kind
or_order None true = None
or_order None false = Some OutOfOrder

-- the fault of a record of that kind, after one at the place last, with so many records of each table before it
abbrev pub kind_fault : Sizes → List ℕ → List ℕ → Option Kind → List (List ℕ) → Option FaultKind
kind_fault scale last counts None fields = Some WrongShape
kind_fault scale last counts (Some Ending) fields = columns_fault (map (λ count. Count count) counts) fields
kind_fault scale last counts (Some (Of table)) fields =
    or_order (columns_fault (record_columns scale table (length fields)) fields)
    (has_ascending_lines scale table fields && comes_after table (place_in scale table fields) last)

-- the fault of a record, regardless of its length
abbrev pub fields_fault : Sizes → List ℕ → List ℕ → List (List ℕ) → Option FaultKind
fields_fault scale last counts [] = Some WrongShape
fields_fault scale last counts (word ∷ fields) = kind_fault scale last counts (kind_of scale.format word) fields

-- the fault of a record, including that of its length
abbrev pub record_fault : Sizes → List ℕ → List ℕ → List (List ℕ) → Option FaultKind
record_fault scale last counts fields = unless_long fields (fields_fault scale last counts fields)
