-- The position of a reader in its file.
use Rattle.std.specs.Prelude.{◌≡◌, ◌≤◌, ◌<◌, ◌⊎◌, ◌+◌, ◌-◌, ◌^◌, ℕ, List, [], ◌∷◌, ◌++◌, Bool, true, false, Option, Some, None, drop, option_map, if◌then◌else◌}
use Rattle.std.specs.Io.KnownBytes.{prepend_known}
use Rattle.csv.specs.Machine.{Read, next_record}
use Rattle.csv.specs.Reading.{AreRecords, Reached, ReadsNext, default_config, strip_bom}
use Rattle.csv.specs.declared.parser.State.{State}
use Rattle.csv.specs.declared.parser.State.TheVariants as state
use Rattle.csv.proofs.ReadFacts.{Tracks}
use Rattle.files.specs.declared.fault.FaultKind.{FaultKind}
use Rattle.files.specs.declared.fault.FileError.{FileError}
use Rattle.files.specs.declared.fault.FileError.TheVariants.{NoMemory, Failed, File}
use Rattle.files.specs.declared.records.Records.{Records}
use Rattle.files.specs.Line.{IsBetween}
use Rattle.files.specs.Source.{ahead, at_hand}
use Rattle.files.specs.Span.{parts, record_size}
use Rattle.files.specs.Unquoted.{field_begun, fields_ended, machine_state}

-- some records, each as its fields
abbrev pub Rows : Type 0
Rows = List (List (List ℕ))

-- the source of the records
abbrev pub input : {R : Type 0} → Records R → R
input r = r.source.reader

-- the number of the current record
abbrev pub record_number : {R : Type 0} → Records R → ℕ
record_number r = r.number

-- the number is one more than the one before, unless that was the greatest
abbrev pub IsNextNumber : ℕ → ℕ → Type 0
IsNextNumber old new = old < 2 ^ 64 - 1 → new ≡ old + 1

-- a fault of the file at that record
abbrev pub file_fault : FaultKind → ℕ → FileError
file_fault kind number = File (record { kind = kind; «record» = number })

-- that fault at that record, a failed read of it, or out of memory
abbrev pub IsErrorAt : FaultKind → ℕ → FileError → Type 0
IsErrorAt kind number error = (error ≡ NoMemory) ⊎ (error ≡ Failed number) ⊎ (error ≡ file_fault kind number)

-- the bytes that contain the fields of the current record
abbrev pub record_bytes : {R : Type 0} → Records R → List ℕ
record_bytes r = if r.is_quoted then r.unquoted.bytes.items else at_hand r.source

-- the fields of the current record
abbrev pub record_fields : {R : Type 0} → Records R → List (List ℕ)
record_fields r = parts (record_bytes r) r.spans.items

-- the text after the current record, if it is known; a byte order mark at the front of a file is not part of it
abbrev pub text_left : {R : Type 0} → (R → Option (List ℕ)) → Records R → Option (List ℕ)
text_left remaining r =
    let left = prepend_known (drop r.taken (at_hand r.source)) (remaining r.source.reader) in
    if r.source.is_begun then left else option_map strip_bom left

-- these are all the records of a text
abbrev pub IsCsv : List ℕ → Rows → Type 0
IsCsv text rows = AreRecords default_config state.StartRecord (strip_bom text) rows

-- if the text of a source is known, it is that of records of which AreRows holds
abbrev pub Gives : Option (List ℕ) → (Rows → Type 0) → Type 0
Gives source AreRows = (text : List ℕ) → source ≡ Some text → (rows : Rows) × IsCsv text rows × AreRows rows

-- if the text of a source is known, AreRows holds of its records
abbrev pub ForRecords : Option (List ℕ) → (Rows → Type 0) → Type 0
ForRecords source AreRows = (text : List ℕ) (rows : Rows) → source ≡ Some text → IsCsv text rows → AreRows rows

-- these records of a text have been read, and the text after them is left
pub record HasRead {R : Type 0} (remaining : R → Option (List ℕ)) (text : List ℕ) (rows : Rows) (r : Records R) : Type 0 where
  pub left : List ℕ
  pub source : text_left remaining r ≡ Some left
  pub after : State
  pub is_between : IsBetween after
  pub reached : Reached default_config state.StartRecord (strip_bom text) rows after left

-- one more record has been read, or there was none
abbrev pub HasReadOn : {R : Type 0} → (R → Option (List ℕ)) → List ℕ → Rows → Bool → Records R → Type 0
HasReadOn remaining text rows true r = HasRead remaining text (rows ++ (record_fields r ∷ [])) r
HasReadOn remaining text rows false r = IsCsv text rows

-- after the records that had been read, one more has been read, or there was none
abbrev pub ReadsOn : {R : Type 0} → (R → Option (List ℕ)) → Bool → Records R → Records R → Type 0
ReadsOn remaining found old new =
    (text : List ℕ) (rows : Rows) → HasRead remaining text rows old → HasReadOn remaining text rows found new

-- these are all the records of the text that is left
pub record HasLeft {R : Type 0} (remaining : R → Option (List ℕ)) (rows : Rows) (r : Records R) : Type 0 where
  pub left : List ℕ
  pub source : text_left remaining r ≡ Some left
  pub are_left : AreRecords default_config state.StartRecord left rows

-- the first of the records that were left has been read, or there was none
abbrev pub HasLeftAfter : {R : Type 0} → (R → Option (List ℕ)) → Rows → Bool → Records R → Type 0
HasLeftAfter remaining [] found r = found ≡ false
HasLeftAfter remaining (row ∷ rows) found r = (found ≡ true) × (record_fields r ≡ row) × HasLeft remaining rows r

-- of the records that were left, the first has been read, or there was none
abbrev pub TakesNext : {R : Type 0} → (R → Option (List ℕ)) → Bool → Records R → Records R → Type 0
TakesNext remaining found old new = (rows : Rows) → HasLeft remaining rows old → HasLeftAfter remaining rows found new

-- the record has at most 65,536 bytes, with one for the end of each field
abbrev pub IsKept : List (List ℕ) → Type 0
IsKept fields = record_size fields ≤ 65536

-- the first of these records has more than 65,536 bytes
abbrev pub FirstIsTooLong : Rows → Type 0
FirstIsTooLong [] = ⊥
FirstIsTooLong (row ∷ rows) = 65536 < record_size row

-- the first of the records that are left has more than 65,536 bytes
abbrev pub NextLeftIsTooLong : {R : Type 0} → (R → Option (List ℕ)) → Records R → Type 0
NextLeftIsTooLong remaining r = (rows : Rows) → HasLeft remaining rows r → FirstIsTooLong rows

-- a record is found, and it has more than size bytes
abbrev pub FindsLonger : ℕ → Option Read → Type 0
FindsLonger size None = ⊥
FindsLonger size (Some read) = size < record_size read.0

-- the next record of a text, if the text is known, has more than 65,536 bytes
abbrev pub NextIsTooLong : Option (List ℕ) → Type 0
NextIsTooLong None = Unit {0}
NextIsTooLong (Some text) = FindsLonger 65536 (next_record default_config state.StartRecord [] [] text)

-- the current record is the next one of the text that was left before, or there was none; the text after it is left
pub record IsNext {R : Type 0} (remaining : R → Option (List ℕ)) (before : Option (List ℕ)) (found : Bool) (r : Records R) : Type 0 where
  pub after : State
  pub is_between : IsBetween after
  pub reads : ReadsNext default_config state.StartRecord before (text_left remaining r) found (record_fields r) after
  pub is_kept : found ≡ true → IsKept (record_fields r)

-- the next record of the text before is the one that is being read byte by byte, and it goes on with the bytes ahead
abbrev pub IsUnquoting : {R : Type 0} → (R → Option (List ℕ)) → Option (List ℕ) → Records R → Type 0
IsUnquoting remaining before r =
    Tracks default_config state.StartRecord before
    (machine_state r.unquoted.state) (fields_ended r.unquoted r.spans.items) (field_begun r.unquoted) (ahead remaining r.source)
