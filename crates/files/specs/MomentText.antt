-- The spelling of moments: `2024-01-31T23:59:59`.
use Rattle.std.specs.Prelude.{◌≡◌, ◌≤◌, ℕ, List, pos}
use Rattle.jiff.specs.Names.{iso_datetime_text}
use Rattle.jiff_core.specs.DateTime.{civil_seconds}
use Rattle.jiff_core.specs.declared.civil.datetime.DateTime.{DateTime}

-- the text is that of a date and time without a fraction, so many seconds after the start of 1970
pub record Spells (moment : DateTime) (text : List ℕ) (seconds : ℕ) : Type 0 where
  pub is_text : iso_datetime_text moment ≡ text
  pub is_whole : moment.time.subsec_nanosecond ≡ 0
  pub is_second : civil_seconds moment ≡ pos seconds

-- the text spells that moment
abbrev pub IsMomentText : List ℕ → ℕ → Type 0
IsMomentText text seconds = (moment : DateTime) × Spells moment text seconds

-- a moment in the years 1970 to 9999
abbrev pub IsMoment : ℕ → Type 0
IsMoment seconds = seconds ≤ 253402300799
