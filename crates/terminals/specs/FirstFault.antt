-- The first fault of a script, of moves, of a schedule and of a log: its record and its kind.
use Rattle.std.specs.Prelude.{◌≡◌, ℕ, ◌+◌, List, [], ◌∷◌, length, Bool, true, false, ◌==◌, codes, Option, Some, None, Result, Ok, Err, if◌then◌else◌}
use Rattle.std.specs.Str.{bytes_eq}
use Rattle.files.specs.declared.fault.FaultKind.{FaultKind}
use Rattle.files.specs.declared.fault.FaultKind.TheVariants.{WrongShape, OutOfRange, OutOfOrder, NoEnd}
use Rattle.files.specs.declared.fault.FileFault.{FileFault}
use Rattle.files.specs.Columns.{Column, Count, Spelt, at_end, found, take_column, take_columns, take_word}
use Rattle.files.specs.FieldRead.{FieldsView, whole_read}
use Rattle.files.specs.FirstFault.{ReportsKind, behind_end, fault_at, fault_or, unless_long}
use Rattle.files.specs.Place.{HasLeft, record_number}
use Rattle.files.specs.declared.fault.FileError.{FileError}
use Rattle.files.specs.declared.records.Records.{Records}
use Rattle.requests.specs.declared.request.Request.{Request}
use Rattle.terminals.specs.ReplyColumns.{after_reply}
use Rattle.terminals.specs.RequestColumns.{fault_in, number, repeated, request_columns, terminal_columns, after_known, after_request}

-- ---- what has been read of a record once the fields after its first one are taken

-- A move: `lo` is taken; `hi` and `to` follow.
abbrev pub after_move : List ℕ → FieldsView → FieldsView
after_move lo t = take_columns (number ∷ number ∷ []) (found (fault_in (whole_read 0 4294967295 lo)) t)

-- A record of a script: the first field is the letter of what a terminal asks for.
abbrev pub after_asked : List ℕ → FieldsView → FieldsView
after_asked letter t = after_known (terminal_columns (length t.left + 1) letter (length t.left)) t

-- A record of a schedule: a session, a number and a request; or a move; or an executor that takes or sends; or rounds.
abbrev pub after_submit : FieldsView → FieldsView
after_submit t =
    let u : FieldsView = take_columns (number ∷ number ∷ []) t in
    after_request (length u.left) (take_word u).0 (take_word u).1

abbrev pub after_scheduled : List ℕ → FieldsView → FieldsView
after_scheduled letter t =
    if bytes_eq letter (codes "S") then after_submit t
    else (if bytes_eq letter (codes "M") then after_move (take_word t).0 (take_word t).1
    else (if bytes_eq letter (codes "T") then take_column number t
    else (if bytes_eq letter (codes "X") then take_column number t
    else (if bytes_eq letter (codes "R") then t else found (Some WrongShape) t))))

-- The fault of a field that should be this place.
abbrev pub other_place : ℕ → Result ℕ FaultKind → Option FaultKind
other_place place (Ok value) = if value == place then None else Some OutOfOrder
other_place place (Err kind) = Some kind

-- A count too great for any record is a wrong shape.
abbrev pub count_fault : FaultKind → FaultKind
count_fault OutOfRange = WrongShape
count_fault kind = kind

-- All fields left are skipped.
abbrev pub pass_over : FieldsView → FieldsView
pass_over t = take_columns (repeated (length t.left) (Spelt (λ word. None) ∷ [])) t

-- A request with these columns after its letter, which should have this many fields, and its reply.
abbrev pub after_logged : Option (List Column) → ℕ → FieldsView → FieldsView
after_logged None count t = found (Some WrongShape) t
after_logged (Some columns) count t =
    let u : FieldsView = found (if length columns + 1 == count then None else Some WrongShape) (take_columns columns t) in
    after_reply (take_word u).0 (take_word u).1

-- A request of this many fields, and its reply. Without a count it is unknown which fields are the request's.
abbrev pub after_counted : Result ℕ FaultKind → FieldsView → FieldsView
after_counted (Ok count) t =
    after_logged (request_columns count (take_word t).0 (length (take_word t).1.left)) count (take_word t).1
after_counted (Err kind) t = pass_over (found (Some (count_fault kind)) t)

-- A record of a log: the place is taken; a session, a number and the number of the request's fields follow.
abbrev pub after_entry : ℕ → List ℕ → FieldsView → FieldsView
after_entry place first t =
    let u : FieldsView = take_columns (number ∷ number ∷ []) (found (other_place place (whole_read 0 4294967295 first)) t) in
    after_counted (whole_read 0 18446744073709551615 (take_word u).0) (take_word u).1

-- ---- the first fault

-- What has been read of a record once its first field is taken: the end record, with the number of records before it, or an
-- item.
abbrev pub after_listed : (ℕ → List ℕ → FieldsView → FieldsView) → ℕ → List ℕ → FieldsView → FieldsView
after_listed take count first t = if bytes_eq first (codes "END") then take_column (Count count) t else take count first t

-- Whether a record is the end record.
abbrev pub is_end : List (List ℕ) → Bool
is_end fields = bytes_eq (take_word (record { left = fields; fault = None })).0 (codes "END")

-- The least fault of a record after `count` others: first without regard to its length, then of the whole record.
abbrev pub fields_fault : (ℕ → List ℕ → FieldsView → FieldsView) → ℕ → List (List ℕ) → Option FaultKind
fields_fault take count fields =
    let first : List ℕ × FieldsView = take_word (record { left = fields; fault = None }) in
    let t : FieldsView = after_listed take count first.0 first.1 in
    at_end t.left t.fault

abbrev pub record_fault : (ℕ → List ℕ → FieldsView → FieldsView) → ℕ → List (List ℕ) → Option FaultKind
record_fault take count fields = unless_long fields (fields_fault take count fields)

-- The first fault of the records after `count` others, up to the end record, each read by `take`. No record may follow the end
-- record.
unfoldable pub listing_fault : (ℕ → List ℕ → FieldsView → FieldsView) → ℕ → List (List (List ℕ)) → Option FileFault
listing_fault take count [] = Some (fault_at NoEnd (count + 1))
listing_fault take count (row ∷ rows) =
    fault_or (record_fault take count row) (count + 1)
    (if is_end row then behind_end (count + 1) rows else listing_fault take (count + 1) rows)

abbrev pub script_fault : List (List (List ℕ)) → Option FileFault
script_fault rows = listing_fault (λ place. after_asked) 0 rows

abbrev pub moves_fault : List (List (List ℕ)) → Option FileFault
moves_fault rows = listing_fault (λ place. after_move) 0 rows

abbrev pub schedule_fault : List (List (List ℕ)) → Option FileFault
schedule_fault rows = listing_fault (λ place. after_scheduled) 0 rows

abbrev pub log_fault : List (List (List ℕ)) → Option FileFault
log_fault rows = listing_fault after_entry 0 rows

-- ---- reading a record

-- A count was taken, or its fault is recorded.
abbrev pub IsCounted : Option ℕ → FieldsView → FieldsView → Type 0
IsCounted (Some count) old new = (whole_read 0 18446744073709551615 (take_word old).0 ≡ Ok count) × (new ≡ (take_word old).1)
IsCounted None old new =
    (kind : FaultKind) × (whole_read 0 18446744073709551615 (take_word old).0 ≡ Err kind) × (new ≡ found (Some (count_fault kind)) (take_word old).1)

-- A request that should have this many fields was taken, with its letter; or the letter is unknown, which is recorded.
abbrev pub IsAsked : Option Request → ℕ → FieldsView → FieldsView → Type 0
IsAsked None count old new =
    (request_columns count (take_word old).0 (length (take_word old).1.left) ≡ None) × (new ≡ found (Some WrongShape) (take_word old).1)
IsAsked (Some request) count old new =
    (columns : List Column) × (request_columns count (take_word old).0 (length (take_word old).1.left) ≡ Some columns)
    × (new ≡ found (if length columns + 1 == count then None else Some WrongShape) (take_columns columns (take_word old).1))

-- A record after `count` others was read as an item or as the end record; or the error is its fault.
abbrev pub IsReadAs : {T : Type 0} → (ℕ → List ℕ → FieldsView → FieldsView) → ℕ → List (List ℕ) → ℕ → Result (Option T) FileError → Type 0
IsReadAs take count fields at (Ok (Some item)) = (fields_fault take count fields ≡ None) × (is_end fields ≡ false)
IsReadAs take count fields at (Ok None) = (fields_fault take count fields ≡ None) × (is_end fields ≡ true)
IsReadAs take count fields at (Err error) = ReportsKind error (fields_fault take count fields) at

-- The end record among all these records was read; more records may follow.
pub record ReachesEnd {R : Type 0} (remaining : R → Option (List ℕ)) (take : ℕ → List ℕ → FieldsView → FieldsView) (rows : List (List (List ℕ))) (r : Records R) : Type 0 where
  pub more : List (List (List ℕ))
  pub fault : listing_fault take 0 rows ≡ behind_end (record_number r) more
  pub left : HasLeft remaining more r
  pub number : record_number r + length more ≡ length rows
