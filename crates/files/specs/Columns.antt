-- The columns of a record: what its fields must spell, their values, and the least of their faults.
use Rattle.std.specs.Prelude.{◌≡◌, ℕ, ℤ, pos, List, [], ◌∷◌, Option, Some, None, Result}
use Rattle.rows.specs.declared.records.Credit.{Credit as CreditKind}
use Rattle.rows.specs.declared.records.Credit.TheVariants.{Good}
use Rattle.files.specs.declared.fault.FaultKind.{FaultKind}
use Rattle.files.specs.declared.fault.FaultKind.TheVariants.{WrongShape}
use Rattle.files.specs.declared.fields.Fields.{Fields}
use Rattle.files.specs.FieldRead.{FieldsView, fields_view, field_read, noted, whole_read}
use Rattle.files.specs.KindsRead.{count_read, credit_read, moment_read, money_read, optional_read, word_read}
use Rattle.files.specs.Word.{text_read}

-- a column: a number from low to high, a text of at most so many bytes, money, a moment, GC or BC, a number or a moment
-- that may be null, an expected count, or a word with a function that returns its fault
pub data Column : Type 0 where
  Whole : ℕ → ℕ → Column
  Words : ℕ → Column
  Cents : Column
  Moment : Column
  Credit : Column
  MaybeWhole : ℕ → ℕ → Column
  MaybeMoment : Column
  Count : ℕ → Column
  Spelt : (List ℕ → Option FaultKind) → Column

-- the state of a record with the fault noted, if there is one
abbrev pub found : Option FaultKind → FieldsView → FieldsView
found None t = t
found (Some kind) t = record { left = t.left; fault = noted t.fault kind }

-- the next field as a word, and the state of the record after it
abbrev pub take_word : FieldsView → List ℕ × FieldsView
take_word t = field_read word_read [] t

-- ---- the values of the fields

-- the type of the value of a field of the column
abbrev pub Value : Column → Type 0
Value (Whole low high) = ℕ
Value (Words width) = List ℕ
Value Cents = ℤ
Value Moment = ℕ
Value Credit = CreditKind
Value (MaybeWhole low high) = Option ℕ
Value MaybeMoment = Option ℕ
Value (Count count) = ℕ
Value (Spelt fault) = List ℕ

-- the types of the values of the columns' fields, in order
abbrev pub Values : List Column → Type 0
Values [] = Unit {0}
Values (column ∷ columns) = Value column × Values columns

-- reads a field's bytes as those of the column; for a word, without the fault that its function returns
abbrev pub column_read : (column : Column) → List ℕ → Result (Value column) FaultKind
column_read (Whole low high) = whole_read low high
column_read (Words width) = text_read width
column_read Cents = money_read
column_read Moment = moment_read
column_read Credit = credit_read
column_read (MaybeWhole low high) = optional_read (whole_read low high)
column_read MaybeMoment = optional_read moment_read
column_read (Count count) = count_read count
column_read (Spelt fault) = word_read

-- the stand-in value for a faulty field of the column
abbrev pub stand_in : (column : Column) → Value column
stand_in (Whole low high) = low
stand_in (Words width) = []
stand_in Cents = pos 0
stand_in Moment = 0
stand_in Credit = Good
stand_in (MaybeWhole low high) = None
stand_in MaybeMoment = None
stand_in (Count count) = count
stand_in (Spelt fault) = []

-- reads the next field as one of the column: its value, and the state of the record after it
abbrev pub read_column : (column : Column) → FieldsView → Value column × FieldsView
read_column (Spelt fault) t = let word = take_word t in (word.0, found (fault word.0) word.1)
read_column column t = field_read (column_read column) (stand_in column) t

-- the same for several columns, from left to right
abbrev pub read_columns : (columns : List Column) → FieldsView → Values columns × FieldsView
read_columns [] t = (tt, t)
read_columns (column ∷ columns) t =
    let first = read_column column t in
    let rest = read_columns columns first.1 in
    ((first.0, rest.0), rest.1)

-- the columns were read, and the result was made from the values of their fields
pub record Reads {X : Type 0} (columns : List Column) (form : Values columns → X) (result : X) (old new : Fields) : Type 0 where
  pub value : result ≡ form (read_columns columns (fields_view old)).0
  pub after : fields_view new ≡ (read_columns columns (fields_view old)).1

-- ---- the faults alone

-- the state of a record after a field of the column
abbrev pub take_column : Column → FieldsView → FieldsView
take_column column t = (read_column column t).1

-- the same for several columns, from left to right
abbrev pub take_columns : List Column → FieldsView → FieldsView
take_columns [] t = t
take_columns (column ∷ columns) t = take_columns columns (take_column column t)

-- the next field was taken as one of the column
abbrev pub TakesColumn : Column → Fields → Fields → Type 0
TakesColumn column old new = fields_view new ≡ take_column column (fields_view old)

-- the same for several columns
abbrev pub TakesColumns : List Column → Fields → Fields → Type 0
TakesColumns columns old new = fields_view new ≡ take_columns columns (fields_view old)

-- fields that are left at the end are too many
abbrev pub at_end : List (List ℕ) → Option FaultKind → Option FaultKind
at_end [] fault = fault
at_end (field ∷ fields) fault = noted fault WrongShape

-- the least fault, if these are all columns that are left
abbrev pub columns_end : List Column → FieldsView → Option FaultKind
columns_end columns t = let u : FieldsView = take_columns columns t in at_end u.left u.fault

-- the least fault of a record's fields, if these are its columns
abbrev pub columns_fault : List Column → List (List ℕ) → Option FaultKind
columns_fault columns fields = columns_end columns (record { left = fields; fault = None })
