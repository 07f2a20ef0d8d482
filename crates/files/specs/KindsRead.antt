-- How amounts, moments, credits, counts and fields that may be empty are read: each as its value, or as its fault.
use Rattle.std.specs.Prelude.{ℕ, ℤ, pos, negsuc, neg_ℤ, ◌+ℤ◌, ◌*ℤ◌, ◌+◌, ◌*◌, List, [], ◌∷◌, ◌++◌, ◌&&◌, ◌==◌, nat_le, codes, Option, Some, None, Result, Ok, Err, if◌then◌else◌}
use Rattle.std.specs.List.{list_all}
use Rattle.std.specs.Str.{bytes_eq, is_utf8}
use Rattle.std.specs.Str.Parse.{digits_value}
use Rattle.jiff_core.specs.Calendar.{days_from_civil}
use Rattle.jiff_core.specs.declared.error.Error.{Error}
use Rattle.jiff_fmt.specs.Temporal.{DateParts, TimeParts, parse_datetime}
use Rattle.jiff_fmt.specs.Text.{year_text, pad2, fraction_part}
use Rattle.amounts.specs.Money.{money}
use Rattle.rows.specs.declared.records.Credit.{Credit}
use Rattle.rows.specs.declared.records.Credit.TheVariants.{Good, Bad}
use Rattle.rows.specs.Text.{is_printable_byte}
use Rattle.files.specs.declared.fault.FaultKind.{FaultKind}
use Rattle.files.specs.declared.fault.FaultKind.TheVariants.{NotOfKind, OutOfRange, WrongCount}
use Rattle.files.specs.Number.{is_number}
use Rattle.files.specs.FieldRead.{is_within}

-- ---- words

-- the bytes, if they are UTF-8
unfoldable pub word_read : List ℕ → Result (List ℕ) FaultKind
word_read bytes = if is_utf8 bytes then Ok bytes else Err NotOfKind

-- ---- money

-- the number that the bytes spell, negative after a minus sign
abbrev pub signed_value : List ℕ → ℤ
signed_value [] = pos 0
signed_value (first ∷ rest) = if first == 45 then neg_ℤ (pos (digits_value 10 rest)) else pos (digits_value 10 (first ∷ rest))

-- the value, or OutOfRange if there is none
abbrev pub in_range : {X : Type 0} → Option X → Result X FaultKind
in_range (Some value) = Ok value
in_range None = Err OutOfRange

-- the cents that the bytes spell; bytes that spell no number are reported before an amount out of range
abbrev pub money_read : List ℕ → Result ℤ FaultKind
money_read bytes = if is_number bytes then in_range (money (signed_value bytes)) else Err NotOfKind

-- ---- moments

-- the spelling of a date and time: `2024-01-31T23:59:59`, followed by the fraction of a second if there is one
abbrev pub parts_text : DateParts → TimeParts → List ℕ
parts_text date time =
    (year_text date.year ++ 45 ∷ [] ++ pad2 date.month ++ 45 ∷ [] ++ pad2 date.day)
    ++ 84 ∷ (pad2 time.hour ++ 58 ∷ pad2 time.minute ++ 58 ∷ pad2 time.second ++ fraction_part None time.subsec)

-- the number of seconds from the start of 1970 to the date and time
abbrev pub parts_seconds : DateParts → TimeParts → ℤ
parts_seconds date time =
    days_from_civil date.year date.month date.day *ℤ pos 86_400 +ℤ pos (time.hour * 3600 + time.minute * 60 + time.second)

-- the moment, if it is in the years 1970 to 9999
abbrev pub moment_at : ℤ → Result ℕ FaultKind
moment_at (pos seconds) = if nat_le seconds 253402300799 then Ok seconds else Err NotOfKind
moment_at (negsuc n) = Err NotOfKind

-- the moment of a date and time, if it has no fraction and the text is its spelling
abbrev pub spelt_moment : List ℕ → Result (DateParts × TimeParts) Error → Result ℕ FaultKind
spelt_moment text (Ok (date, time)) =
    if bytes_eq (parts_text date time) text && (time.subsec == 0) then moment_at (parts_seconds date time) else Err NotOfKind
spelt_moment text (Err error) = Err NotOfKind

-- the moment that the bytes spell: that of the date and time that they are parsed as, if they are its one spelling
unfoldable pub moment_read : List ℕ → Result ℕ FaultKind
moment_read bytes = if is_utf8 bytes then spelt_moment bytes (parse_datetime bytes) else Err NotOfKind

-- ---- credits

-- `GC` or `BC`; among other bytes, those that are not printable are reported before other words
abbrev pub credit_read : List ℕ → Result Credit FaultKind
credit_read bytes =
    if bytes_eq bytes (codes "GC") then Ok Good
    else (if bytes_eq bytes (codes "BC") then Ok Bad
    else (if list_all is_printable_byte bytes then Err OutOfRange else Err NotOfKind))

-- ---- counts

-- the expected number; bytes that spell no number are reported before another number
abbrev pub count_read : ℕ → List ℕ → Result ℕ FaultKind
count_read count bytes =
    if is_number bytes then (if is_within count count bytes then Ok count else Err WrongCount) else Err NotOfKind

-- ---- fields that may be empty

-- a value that was read, converted by form
abbrev pub read_as : {X Y : Type 0} → (X → Y) → Result X FaultKind → Result Y FaultKind
read_as form (Ok value) = Ok (form value)
read_as form (Err kind) = Err kind

-- None if there are no bytes
abbrev pub optional_read : {X : Type 0} → (List ℕ → Result X FaultKind) → List ℕ → Result (Option X) FaultKind
optional_read read [] = Ok None
optional_read read (byte ∷ bytes) = read_as (λ value. Some value) (read (byte ∷ bytes))
