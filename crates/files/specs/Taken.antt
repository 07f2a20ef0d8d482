-- The state of a record while its fields are taken.
use Rattle.std.specs.Prelude.{◌≡◌, ℕ, List, ◌∷◌, ◌++◌, drop, Option, Some, None}
use Rattle.files.specs.Span.{parts}
use Rattle.files.specs.declared.fault.FaultKind.{FaultKind}
use Rattle.files.specs.declared.fields.Fields.{Fields}
use Rattle.files.specs.Fault.{least_fault}
use Rattle.files.specs.MomentText.{IsMomentText}

-- the fields that are left
abbrev pub fields_left : Fields → List (List ℕ)
fields_left f = drop f.place (parts f.bytes.now f.spans.now)

-- the least fault so far
abbrev pub fault_of : Fields → Option FaultKind
fault_of f = f.fault

-- the least fault after one more is noted
abbrev pub with_fault : Option FaultKind → FaultKind → FaultKind
with_fault None kind = kind
with_fault (Some fault) kind = least_fault fault kind

-- the fault was noted
abbrev pub Notes : Fields → Fields → FaultKind → Type 0
Notes old new kind = fault_of new ≡ Some (with_fault (fault_of old) kind)

-- if there is no fault afterwards, there was none before, and this field was taken
abbrev pub TakesWell : Fields → Fields → List ℕ → Type 0
TakesWell old new field = fault_of new ≡ None → (fault_of old ≡ None) × (fields_left old ≡ field ∷ fields_left new)

-- the same for a field that spells that moment
abbrev pub TakesMoment : Fields → Fields → ℕ → Type 0
TakesMoment old new seconds =
    fault_of new ≡ None → (fault_of old ≡ None) × ((text : List ℕ) × IsMomentText text seconds × (fields_left old ≡ text ∷ fields_left new))

-- the same for several fields
abbrev pub TakesAll : Fields → Fields → List (List ℕ) → Type 0
TakesAll old new taken = fault_of new ≡ None → (fault_of old ≡ None) × (fields_left old ≡ taken ++ fields_left new)

-- there was no fault before, and fields with this property were taken
pub record Took (old new : Fields) (AreSaid : List (List ℕ) → Type 0) : Type 0 where
  pub faultless : fault_of old ≡ None
  pub texts : List (List ℕ)
  pub are_said : AreSaid texts
  pub left : fields_left old ≡ texts ++ fields_left new

-- the same, if there is no fault afterwards
abbrev pub Takes : Fields → Fields → (List (List ℕ) → Type 0) → Type 0
Takes old new AreSaid = fault_of new ≡ None → Took old new AreSaid
