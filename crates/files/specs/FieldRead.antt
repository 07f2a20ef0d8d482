-- How a field is read: as its value, or as its fault.
use Rattle.std.specs.Prelude.{◌≡◌, ℕ, List, [], ◌∷◌, Bool, false, not, ◌&&◌, ◌==◌, nat_le, Option, Some, Result, Ok, Err, if◌then◌else◌}
use Rattle.std.specs.Str.Parse.{digits_value}
use Rattle.files.specs.declared.fault.FaultKind.{FaultKind}
use Rattle.files.specs.declared.fault.FaultKind.TheVariants.{WrongShape, NotOfKind, OutOfRange}
use Rattle.files.specs.declared.fields.Fields.{Fields}
use Rattle.files.specs.Number.{is_number}
use Rattle.files.specs.Taken.{fields_left, fault_of, with_fault}

-- whether the bytes begin with a minus sign
abbrev pub is_negative : List ℕ → Bool
is_negative [] = false
is_negative (first ∷ rest) = first == 45

-- whether the bytes, if they spell a number, spell one from low to high
abbrev pub is_within : ℕ → ℕ → List ℕ → Bool
is_within low high bytes = not (is_negative bytes) && (nat_le low (digits_value 10 bytes) && nat_le (digits_value 10 bytes) high)

-- the number from low to high that the bytes spell; bytes that spell no number are reported before one out of range
abbrev pub whole_read : ℕ → ℕ → List ℕ → Result ℕ FaultKind
whole_read low high bytes =
    if is_number bytes then (if is_within low high bytes then Ok (digits_value 10 bytes) else Err OutOfRange) else Err NotOfKind

-- the state of a record while its fields are taken: the fields that are left, and the least fault so far
pub record FieldsView : Type 0 where
  pub left : List (List ℕ)
  pub fault : Option FaultKind

abbrev pub fields_view : Fields → FieldsView
fields_view f = record { left = fields_left f; fault = fault_of f }

-- the least fault after one more is noted
abbrev pub noted : Option FaultKind → FaultKind → Option FaultKind
noted fault kind = Some (with_fault fault kind)

-- the value that was read, or the stand-in value with the fault noted
abbrev pub value_or : {X : Type 0} → Result X FaultKind → X → List (List ℕ) → Option FaultKind → X × FieldsView
value_or (Ok value) other rest fault = (value, record { left = rest; fault = fault })
value_or (Err kind) other rest fault = (other, record { left = rest; fault = noted fault kind })

-- reads the next of these fields; if there is none, yields the stand-in value and notes WrongShape
abbrev pub next_read : {X : Type 0} → (List ℕ → Result X FaultKind) → X → List (List ℕ) → Option FaultKind → X × FieldsView
next_read read other [] fault = (other, record { left = []; fault = noted fault WrongShape })
next_read read other (field ∷ rest) fault = value_or (read field) other rest fault

-- the same for the state of a record
abbrev pub field_read : {X : Type 0} → (List ℕ → Result X FaultKind) → X → FieldsView → X × FieldsView
field_read read other t = next_read read other t.left t.fault

-- the next field was read: the result is its value, or the stand-in value, and its fault was noted
abbrev pub ReadsField : {X : Type 0} → (List ℕ → Result X FaultKind) → X → X → Fields → Fields → Type 0
ReadsField read other result old new = (result, fields_view new) ≡ field_read read other (fields_view old)
