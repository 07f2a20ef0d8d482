-- The fields of a line, by the rules of CSV.
use Rattle.std.specs.Prelude.{◌≡◌, ◌≢◌, ◌≤◌, ◌⊎◌, ℕ, List, [], ◌∷◌, take, drop, length, Bool, true, false}
use Rattle.csv.specs.Machine.{Feeds, next_record}
use Rattle.csv.specs.Reading.{default_config}
use Rattle.csv.specs.declared.parser.State.{State}
use Rattle.csv.specs.declared.parser.State.TheVariants as state
use Rattle.files.specs.declared.line.Line.{Line}
use Rattle.files.specs.declared.line.Line.TheVariants as line
use Rattle.files.specs.declared.line.Mark.{Mark}
use Rattle.files.specs.declared.line.Mark.TheVariants as mark
use Rattle.files.specs.declared.source.First.{First}
use Rattle.files.specs.declared.source.First.TheVariants as first
use Rattle.files.specs.declared.span.Span.{Span}
use Rattle.files.specs.Span.{parts, record_size}

-- the bytes begin with the first byte of a record, which is not a line end
abbrev pub BeginsRecord : List ℕ → Type 0
BeginsRecord [] = ⊥
BeginsRecord (byte ∷ bytes) = (byte ≢ 10) × (byte ≢ 13)

-- the kind of the first byte
abbrev pub IsFirst : List ℕ → First → Type 0
IsFirst [] kind = kind ≡ first.None
IsFirst (byte ∷ bytes) first.LineEnd = (byte ≡ 10) ⊎ (byte ≡ 13)
IsFirst (byte ∷ bytes) first.OfRecord = BeginsRecord (byte ∷ bytes)
IsFirst (byte ∷ bytes) first.None = ⊥

-- the kind of a byte of a line
abbrev pub IsMark : ℕ → Mark → Type 0
IsMark byte mark.Plain = (byte ≢ 44) × (byte ≢ 34) × (byte ≢ 10) × (byte ≢ 13)
IsMark byte mark.Comma = byte ≡ 44
IsMark byte mark.LineEnd = (byte ≡ 10) ⊎ (byte ≡ 13)
IsMark byte mark.Quote = byte ≡ 34

-- whether a record has begun and has not ended
abbrev pub is_in_record : State → Bool
is_in_record state.StartRecord = false
is_in_record state.AfterCr = false
is_in_record state.StartField = true
is_in_record state.InField = true
is_in_record state.InQuoted = true
is_in_record state.AfterQuote = true
is_in_record state.InEscape = false
is_in_record state.InComment = false

-- from this state, the next record is read as at the start of a text
abbrev pub IsBetween : State → Type 0
IsBetween s = (text : List ℕ) → next_record default_config s [] [] text ≡ next_record default_config state.StartRecord [] [] text

-- the first count bytes are a whole record with its end, and these are its fields
pub record IsWhole (bytes : List ℕ) (spans : List Span) (count : ℕ) : Type 0 where
  pub after : State
  pub is_between : IsBetween after
  pub within : count ≤ length bytes
  pub fed : Feeds default_config state.StartRecord [] [] (take count bytes) after (parts bytes spans) [] true
  pub size : record_size (parts bytes spans) ≡ count

-- all bytes belong to one record; it has these fields and one more, which begins at from and has not ended
pub record IsOpen (bytes : List ℕ) (spans : List Span) (from : ℕ) : Type 0 where
  pub after : State
  pub in_record : is_in_record after ≡ true
  pub within : from ≤ length bytes
  pub fed : Feeds default_config state.StartRecord [] [] bytes after (parts bytes spans) (drop from bytes) false
  pub size : record_size (parts bytes spans) ≡ from

-- what was found of the record that the bytes begin with
abbrev pub IsCut : List ℕ → List Span → Line → Type 0
IsCut bytes spans (line.Ends count) = IsWhole bytes spans count
IsCut bytes spans line.Quoted = Unit {0}
IsCut bytes spans (line.Open from) = IsOpen bytes spans from
