-- The first fault of a file's records.
use Rattle.std.specs.Prelude.{◌≡◌, ◌+◌, ℕ, List, [], ◌∷◌, nat_lt, Option, Some, None, Result, MatchResult, if◌then◌else◌}
use Rattle.files.specs.declared.fault.FaultKind.{FaultKind}
use Rattle.files.specs.declared.fault.FaultKind.TheVariants.{AfterEnd, WrongShape}
use Rattle.files.specs.declared.fault.FileFault.{FileFault}
use Rattle.files.specs.declared.fault.FileError.{FileError}
use Rattle.files.specs.declared.fault.FileError.TheVariants.{NoMemory, Failed, File}
use Rattle.files.specs.Span.{record_size}

-- the fault of that kind at that record
abbrev pub fault_at : FaultKind → ℕ → FileFault
fault_at kind number = record { kind = kind; «record» = number }

-- the fault of a record with these fields: WrongShape if it has more than 65,536 bytes, with one for the end of each
-- field, otherwise the given one
abbrev pub unless_long : List (List ℕ) → Option FaultKind → Option FaultKind
unless_long fields fault = if nat_lt 65536 (record_size fields) then Some WrongShape else fault

-- a record's fault, or the first fault from the next record on
abbrev pub fault_or : Option FaultKind → ℕ → Option FileFault → Option FileFault
fault_or (Some kind) number next = Some (fault_at kind number)
fault_or None number next = next

-- the fault of records after the end record, which has that number
abbrev pub behind_end : ℕ → List (List (List ℕ)) → Option FileFault
behind_end number [] = None
behind_end number (row ∷ rows) = Some (fault_at AfterEnd (number + 1))

-- the error is that fault of the record with that number, or out of memory
abbrev pub ReportsKind : FileError → Option FaultKind → ℕ → Type 0
ReportsKind NoMemory kind number = Unit {0}
ReportsKind (Failed at) kind number = ⊥
ReportsKind (File fault) kind number = (kind ≡ Some fault.kind) × (fault.record ≡ number)

-- the error is that fault of the text, or out of memory, or a failed read
abbrev pub ReportsFault : FileError → Option FileFault → Type 0
ReportsFault NoMemory first = Unit {0}
ReportsFault (Failed number) first = Unit {0}
ReportsFault (File fault) first = first ≡ Some fault

-- without an error there is no fault, and an error reports this fault, which is the first
abbrev pub ReportsFirst : {X : Type 0} → Result X FileError → Option FileFault → Type 0
ReportsFirst result first = MatchResult result (λ _. first ≡ None) (λ error. ReportsFault error first)
