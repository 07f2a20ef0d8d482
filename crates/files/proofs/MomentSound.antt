-- What is read as a moment is spelt as it.
use Rattle.std.proofs.Common.{◌≡◌, ◌<◌, ◌-◌, ◌+◌, ◌*◌, ◌==◌, ◌&&◌, ◌||◌, ℕ, ℤ, zero, suc, pos, negsuc, List, [], ◌∷◌, Bool}
use Rattle.std.proofs.Common.{true, false, not, nat_lt, nat_le, cond, Option, Some, None, Result, Ok, Err, IfOk, IfSome, refl, sym, arith, option_map, option_and_then}
use Rattle.std.specs.Char.{is_ascii_digit}
use Rattle.std.specs.Int.{IsInRange}
use Rattle.std.specs.Str.{bytes_eq, is_utf8}
use Rattle.std.specs.Cmp.Lexicographic.{bytes_decides}
use Rattle.std.proofs.lemmas.Bool.Decides.{nat_tests}
use Rattle.std.proofs.lemmas.Bool.{and_parts}
use Rattle.jiff_core.specs.Calendar.{IsYear, IsCivilDate, days_in_month}
use Rattle.jiff_core.specs.Sign.{signed}
use Rattle.jiff_core.proofs.SignedLemmas.{signed_arith}
use Rattle.jiff_core.specs.DateTime.{civil_seconds}
use Rattle.jiff_core.specs.declared.civil.datetime.DateTime.{DateTime}
use Rattle.jiff_core.specs.declared.error.Error.{Error}
use Rattle.jiff_core.specs.declared.error.Error.TheVariants.{Parse}
use Rattle.jiff_core.specs.declared.error.Bound.{Bound}
use Rattle.jiff_core.specs.declared.error.Bound.TheVariants as bounds
use Rattle.jiff_core.specs.declared.error.Syntax.{Syntax}
use Rattle.jiff_core.specs.declared.error.Syntax.TheVariants as syntax
use Rattle.jiff_fmt.specs.Offset as Offset
use Rattle.jiff_fmt.specs.Rfc9557 as Rfc9557
use Rattle.jiff_fmt.specs.Reader.{◌>>=◌, begins_with, or_err, two_digits, four_digits, field, temporal_fraction}
use Rattle.jiff_fmt.specs.Temporal.{DateParts, TimeParts, DateTimeParts, year, signed_year, after_sign, year_sign, date_separator, date_spec, second, after_minute}
use Rattle.jiff_fmt.specs.Temporal.{time_spec, time_part, no_time, after_date, temporal_datetime, is_zulu_option, time_separator, whole, to_date, time_or_midnight, parse_datetime}
use Rattle.files.specs.declared.fault.FaultKind.{FaultKind}
use Rattle.files.specs.declared.fault.FaultKind.TheVariants as fault
use Rattle.files.specs.KindsRead.{moment_at, moment_read, parts_seconds, parts_text, spelt_moment}
use Rattle.files.specs.MomentText.{IsMomentText}

-- ---- steps

-- what holds of the value, where there is one
record Gives {A : Type 0} (r : Result A Error) (P : A → Type 0) : Type 0 where
  given : IfOk r P

-- of the value after a step
after : {A B : Type 0} {r : Result A Error} {f : A → Result B Error} {P : A → Type 0} {Q : B → Type 0} → Gives r P → ((x : A) → P x → Gives (f x) Q) → Gives (r >>= f) Q
after {r = Ok x} h next = next x h.given
after {r = Err e} h next = record { given = tt }

-- of a step of which nothing is known
any : {A : Type 0} (r : Result A Error) → Gives r (λ _. Unit {0})
any (Ok x) = record { given = tt }
any (Err e) = record { given = tt }

-- of a choice
chosen : {A : Type 0} {r s : Result A Error} {P : A → Type 0} (b : Bool) → (b ≡ true → Gives r P) → (b ≡ false → Gives s P) → Gives (cond b r s) P
chosen true first other = first refl
chosen false first other = other refl

-- of a value that is refused where the test is true
allowed : {A : Type 0} {P : A → Type 0} (b : Bool) (e : Error) (x : A) → (b ≡ false → P x) → Gives (cond b (Err e) (Ok x)) P
allowed true e x h = record { given = tt }
allowed false e x h = record { given = h refl }

-- of a value that may be missing
present : {A : Type 0} (e : Error) (o : Option A) (P : A → Type 0) → IfSome o P → Gives (or_err e o) P
present e None P h = record { given = tt }
present e (Some x) P h = record { given = h }

-- of a text that was read to its end
ended : {A : Type 0} (x : A) (rest : List ℕ) (P : A → Type 0) → P x → Gives (whole x rest) P
ended x [] P h = record { given = h }
ended x (c ∷ rest) P h = record { given = tt }

-- ---- numbers

-- the number that was read is below the limit
abbrev IsBelow : ℕ → ℕ × List ℕ → Type 0
IsBelow limit number = number.0 < limit

two_in : (text : List ℕ) → IfSome (two_digits text) (IsBelow 100)
unfolding two_digits
two_in [] = tt
two_in (high ∷ []) = tt
two_in (high ∷ low ∷ rest) = by (is_ascii_digit high && is_ascii_digit low) refl
  where
    by : (b : Bool) → (is_ascii_digit high && is_ascii_digit low) ≡ b → IfSome (cond b (Some ((high - 48) * 10 + (low - 48), rest)) None) (IsBelow 100)
    by true digits = grind (arith, nat_tests)
    by false other = tt

-- four digits are two and two more
abbrev with_century : ℕ → Option (ℕ × List ℕ) → Option (ℕ × List ℕ)
with_century century o = option_map (λ y. (century * 100 + y.0, y.1)) o

four_in : (text : List ℕ) → IfSome (four_digits text) (IsBelow 10_000)
unfolding four_digits
four_in text = by_century (two_digits text) (two_in text)
  where
    by_year : (century : ℕ) (o : Option (ℕ × List ℕ)) → century < 100 → IfSome o (IsBelow 100) → IfSome (with_century century o) (IsBelow 10_000)
    by_year century None most h = tt
    by_year century (Some y) most h = omega arith

    by_century : (o : Option (ℕ × List ℕ)) → IfSome o (IsBelow 100) → IfSome (option_and_then (λ c. with_century c.0 (two_digits c.1)) o) (IsBelow 10_000)
    by_century None h = tt
    by_century (Some c) h = by_year c.0 (two_digits c.1) h (two_in c.1)

-- a field is from its lowest to its highest value
field_in : (missing : Syntax) (low high : ℕ) (bound : Bound) (text : List ℕ) → Gives (field missing low high bound text) (λ n. IsInRange low high n.0)
unfolding field
field_in missing low high bound text =
    after (present (Parse missing) (two_digits text) (IsBelow 100) (two_in text)) (λ n small.
    allowed (nat_lt n.0 low || nat_lt high n.0) _ _ (λ within. (grind (arith, nat_tests), grind (arith, nat_tests))))

-- ---- dates

signed_in : (negative : Bool) (n : ℕ) → n < 10_000 → IsYear (signed negative n)
signed_in false n small = (omega (arith, signed_arith), omega (arith, signed_arith))
signed_in true zero small = (omega (arith, signed_arith), omega (arith, signed_arith))
signed_in true (suc n) small = (omega (arith, signed_arith), omega (arith, signed_arith))

signed_year_in : (negative : Bool) (text : List ℕ) → Gives (signed_year negative text) (λ y. IsYear y.0)
unfolding signed_year
signed_year_in negative text =
    after (any (or_err (Parse syntax.Year) (two_digits text))) (λ high _.
    after (present (Parse syntax.Year) (four_digits high.1) (IsBelow 10_000) (four_in high.1)) (λ low small.
    chosen (not (high.0 == 0)) (λ long. record { given = tt }) (λ short.
    allowed ((low.0 == 0) && negative) _ _ (λ is. signed_in negative low.0 small))))

after_sign_in : (sign : Option Bool × List ℕ) → Gives (after_sign sign) (λ y. IsYear y.0)
after_sign_in (Some negative, rest) = signed_year_in negative rest
after_sign_in (None, rest) =
    after (present (Parse syntax.Year) (four_digits rest) (IsBelow 10_000) (four_in rest)) (λ y small. record { given = signed_in false y.0 small })

year_in : (text : List ℕ) → Gives (year text) (λ y. IsYear y.0)
unfolding year
year_in text = after_sign_in (year_sign text)

-- the calendar has the date
abbrev IsDateParts : DateParts → Type 0
IsDateParts date = IsCivilDate date.year date.month date.day

date_in : (text : List ℕ) → Gives (date_spec text) (λ d. IsDateParts d.0)
unfolding date_spec
date_in text =
    after (year_in text) (λ y year_is.
    after (any (date_separator (begins_with 45 y.1) y.1)) (λ a _.
    after (field_in syntax.Month 1 12 bounds.Month a) (λ m month_is.
    after (any (date_separator (begins_with 45 y.1) m.1)) (λ b _.
    after (field_in syntax.Day 1 31 bounds.Day b) (λ d day_is.
    allowed (nat_lt (days_in_month y.0 m.0) d.0) _ _ (λ within. (year_is, month_is, (day_is.0, grind (arith, nat_tests)))))))))

-- ---- times

-- a clock shows the time; nothing is said of its fraction
record IsTimeParts (time : TimeParts) : Type 0 where
  hour : time.hour < 24
  minute : time.minute < 60
  second : time.second < 60

second_in : (text : List ℕ) → Gives (second text) (IsBelow 60)
second_in text = after (field_in syntax.Second 0 60 bounds.LeapSecond text) (λ s most. record { given = grind (arith, nat_tests) })

-- what follows the minute
after_minute_in : (h m : ℕ) (extended : Bool) (text : List ℕ) → h < 24 → m < 60 → Gives (after_minute h m extended text) (λ t. IsTimeParts t.0.0)
after_minute_in h m extended text hour minute =
    chosen (not (time_separator extended text).0) (λ none. record { given = record { hour = hour; minute = minute; second = omega arith } }) (λ some.
    after (second_in (time_separator extended text).1) (λ s small.
    after (any (temporal_fraction s.1)) (λ n _. record { given = record { hour = hour; minute = minute; second = small } })))

time_in : (text : List ℕ) → Gives (time_spec text) (λ t. IsTimeParts t.0.0)
unfolding time_spec
time_in text =
    after (field_in syntax.Hour 0 23 bounds.Hour text) (λ h hour.
    let extended = begins_with 58 h.1 in
    let next = time_separator extended h.1 in
    chosen (not next.0) (λ none. record { given = record { hour = omega arith; minute = omega arith; second = omega arith } }) (λ some.
    after (field_in syntax.Minute 0 59 bounds.Minute next.1) (λ m minute. after_minute_in h.0 m.0 extended m.1 (omega arith) (omega arith))))

-- ---- dates with times

-- the calendar has the date, and a clock shows the time where there is one
record IsDateTimeParts (parts : DateTimeParts) : Type 0 where
  date : IsDateParts parts.date
  time : IfSome parts.time IsTimeParts

time_part_in : (date : DateParts) (text : List ℕ) → IsDateParts date → Gives (time_part date text) (λ p. IsDateTimeParts p.0)
time_part_in date text date_is =
    after (time_in text) (λ time time_is.
    after (any (Offset.parse_optional Offset.datetime_parser time.1)) (λ offset _.
    after (any (Rfc9557.parse offset.1)) (λ zone _. record { given = record { date = date_is; time = time_is } })))

no_time_in : (date : DateParts) (rest : List ℕ) → IsDateParts date → Gives (no_time date rest) (λ p. IsDateTimeParts p.0)
no_time_in date rest date_is = after (any (Rfc9557.parse rest)) (λ zone _. record { given = record { date = date_is; time = tt } })

after_date_in : (d : DateParts × List ℕ) → IsDateParts d.0 → Gives (after_date d) (λ p. IsDateTimeParts p.0)
after_date_in (date, []) date_is = no_time_in date [] date_is
after_date_in (date, c ∷ rest) date_is = chosen ((c == 32) || (c == 84) || (c == 116)) (λ time. time_part_in date rest date_is) (λ none. no_time_in date (c ∷ rest) date_is)

temporal_in : (text : List ℕ) → Gives (temporal_datetime text) (λ p. IsDateTimeParts p.0)
unfolding temporal_datetime
temporal_in text = after (date_in text) after_date_in

-- midnight where there is none
time_of : (time : Option TimeParts) → IfSome time IsTimeParts → IsTimeParts (time_or_midnight time)
time_of None h = record { hour = omega arith; minute = omega arith; second = omega arith }
time_of (Some time) h = h

to_date_in : (parts : DateTimeParts) → IsDateParts parts.date → Gives (to_date parts) IsDateParts
to_date_in parts h = allowed (is_zulu_option parts.offset) _ _ (λ civil. h)

-- what is read is in the calendar and on a clock
parsed_in : (text : List ℕ) → Gives (parse_datetime text) (λ p. IsDateParts p.0 × IsTimeParts p.1)
parsed_in text =
    after (after (temporal_in text) (λ p are. ended p.0 p.1 IsDateTimeParts are)) (λ p are.
    after (to_date_in p are.date) (λ d date_is. record { given = (date_is, time_of p.time are.time) }))

-- ---- moments

at_second : (z : ℤ) (seconds : ℕ) → moment_at z ≡ Ok seconds → z ≡ pos seconds
at_second (pos n) seconds e =
    elim (nat_le n 253402300799) as (λ b. cond b (Ok n) (Err fault.NotOfKind) ≡ Ok seconds → pos n ≡ pos seconds) [
      | true ↦ λ same. cc
      | false ↦ λ other. absurd cc
    ] e
at_second (negsuc n) seconds e = absurd cc

-- a date and time that are there, in their spelling
spelt_sound : (text : List ℕ) (seconds : ℕ) (date : DateParts) (time : TimeParts) → IsDateParts date → IsTimeParts time
    → spelt_moment text (Ok (date, time)) ≡ Ok seconds → IsMomentText text seconds
unfolding civil_seconds
spelt_sound text seconds date time d t e = by (bytes_eq (parts_text date time) text && (time.subsec == 0)) refl e
  where
    by : (b : Bool) → (bytes_eq (parts_text date time) text && (time.subsec == 0)) ≡ b
        → cond b (moment_at (parts_seconds date time)) (Err fault.NotOfKind) ≡ Ok seconds → IsMomentText text seconds
    by false is at = absurd cc
    by true is at =
        let tests = and_parts (bytes_eq (parts_text date time) text) (time.subsec == 0) is in
        let no_fraction : time.subsec ≡ 0 = let z = tests.1 in grind (arith, nat_tests, z) in
        let moment : DateTime = record {
          date = record { year = date.year; month = date.month; day = date.day; year_in = d.0; month_in = d.1; day_in = d.2 };
          time = record {
            hour = time.hour;
            minute = time.minute;
            second = time.second;
            subsec_nanosecond = time.subsec;
            hour_in = t.hour;
            minute_in = t.minute;
            second_in = t.second;
            subsec_in = omega arith;
          };
        } in (
          moment,
          record {
            is_text = (bytes_decides (parts_text date time) text).0 tests.0;
            is_whole = no_fraction;
            is_second = at_second (parts_seconds date time) seconds at;
          },
        )

read_sound : (text : List ℕ) (seconds : ℕ) (r : Result (DateParts × TimeParts) Error) → Gives r (λ p. IsDateParts p.0 × IsTimeParts p.1)
    → spelt_moment text r ≡ Ok seconds → IsMomentText text seconds
read_sound text seconds (Err error) h e = absurd cc
read_sound text seconds (Ok (date, time)) h e = spelt_sound text seconds date time h.given.0 h.given.1 e

-- what is read as a moment is spelt as it
pub moment_sound : (text : List ℕ) (seconds : ℕ) → moment_read text ≡ Ok seconds → IsMomentText text seconds
unfolding moment_read
moment_sound text seconds e =
    elim (is_utf8 text) as (λ b. cond b (spelt_moment text (parse_datetime text)) (Err fault.NotOfKind) ≡ Ok seconds → IsMomentText text seconds) [
      | true ↦ λ read. read_sound text seconds (parse_datetime text) (parsed_in text) read
      | false ↦ λ other. absurd cc
    ] e

-- the same of what a parser gives
pub if_moment : (text : List ℕ) (r : Result ℕ FaultKind) → r ≡ moment_read text → IfOk r (λ seconds. IsMomentText text seconds)
if_moment text (Ok seconds) is = moment_sound text seconds (sym is)
if_moment text (Err kind) is = tt
