-- `jiff` reads what it writes of a date and time.
use Rattle.std.proofs.Common.{◌≡◌, ◌≤◌, ℕ, ℤ, pos, negsuc, ◌*ℤ◌, List, [], ◌∷◌, ◌++◌, length, None, refl, sym, ap, ◌∙◌, arith, length-append}
use Rattle.jiff_core.specs.DateTime.{civil_nanos, civil_seconds}
use Rattle.jiff_core.proofs.DateTimeLemmas.{civil_nanos-civil_seconds}
use Rattle.jiff.proofs.SpanFacts.{signed_arith}
use Rattle.jiff_core.specs.declared.civil.datetime.DateTime.{DateTime}
use Rattle.jiff_fmt.specs.Temporal.{DateParts, TimeParts, date_parts, time_parts, parse_datetime}
use Rattle.jiff_fmt.proofs.RoundTrip.{parse_datetime-datetime_text}
use Rattle.jiff_fmt.specs.Text.{date_text, time_text, year_text, pad2, fraction_part}
use Rattle.jiff_core.specs.declared.civil.date.Date.{Date}
use Rattle.jiff_core.specs.declared.civil.time.Time.{Time}
use Rattle.files.specs.MomentText.{IsMomentText}

seconds-parts : (a b : DateTime) → date_parts a.date ≡ date_parts b.date → time_parts a.time ≡ time_parts b.time → civil_seconds a ≡ civil_seconds b
unfolding civil_seconds
seconds-parts a b d t = rw (
  ap (λ p. p.year) d,
  ap (λ p. p.month) d,
  ap (λ p. p.day) d,
  ap (λ p. p.hour) t,
  ap (λ p. p.minute) t,
  ap (λ p. p.second) t,
)

-- a date and time at a whole second has no fraction
pub whole_seconds : (moment : DateTime) (seconds : ℕ) → civil_nanos moment ≡ pos seconds *ℤ pos 1_000_000_000 → (civil_seconds moment ≡ pos seconds) × (moment.time.subsec_nanosecond ≡ 0)
whole_seconds moment seconds e =
    let parts = civil_nanos-civil_seconds moment in
    let small = moment.time.subsec_in in
    (omega (arith, signed_arith), omega (arith, signed_arith))

-- a text spells one moment alone
pub same_moment : (text : List ℕ) (a b : ℕ) → IsMomentText text a → IsMomentText text b → a ≡ b
same_moment text a b h g =
    let one = ap parse_datetime (sym h.1.is_text) ∙ parse_datetime-datetime_text h.0 in
    let other = ap parse_datetime (sym g.1.is_text) ∙ parse_datetime-datetime_text g.0 in
    let same = sym one ∙ other in
    let pair : (date_parts h.0.date, time_parts h.0.time) ≡ (date_parts g.0.date, time_parts g.0.time) = cc in
    let d : date_parts h.0.date ≡ date_parts g.0.date = ap (λ (p : DateParts × TimeParts). p.0) pair in
    let t : time_parts h.0.time ≡ time_parts g.0.time = ap (λ (p : DateParts × TimeParts). p.1) pair in
    same_pos a b (sym h.1.is_second ∙ seconds-parts h.0 g.0 d t ∙ g.1.is_second)
  where
    same_pos : (m n : ℕ) → pos m ≡ pos n → m ≡ n
    same_pos m n e = cc

not_empty : (xs ys : List ℕ) (y : ℕ) → xs ++ (y ∷ ys) ≡ [] → ⊥
not_empty [] ys y e = cc
not_empty (x ∷ xs) ys y e = cc

-- and is not empty
pub some_moment_text : (seconds : ℕ) → IsMomentText [] seconds → ⊥
some_moment_text seconds h = not_empty (date_text h.0.date) (time_text None h.0.time) 84 h.1.is_text

length_year : (y : ℤ) → length (year_text y) ≤ 7
length_year (pos n) = omega arith
length_year (negsuc n) = omega arith

length_date : (d : Date) → length (date_text d) ≤ 13
length_date d =
    let year = year_text d.year in
    let month = pad2 d.month in
    let day = pad2 d.day in
    let long = length_year d.year in
    omega (arith, long, length-append year (45 ∷ []), length-append (year ++ 45 ∷ []) month, length-append (year ++ 45 ∷ [] ++ month) (45 ∷ []), length-append (year ++ 45 ∷ [] ++ month ++ 45 ∷ []) day)

length_time : (t : Time) → t.subsec_nanosecond ≡ 0 → length (time_text None t) ≤ 8
length_time t whole =
    let hour = pad2 t.hour in
    let minute = pad2 t.minute in
    let second = pad2 t.second in
    let none : fraction_part None t.subsec_nanosecond ≡ [] = rw whole refl in
    let fraction = ap length none in
    omega (arith, fraction, length-append hour (58 ∷ minute), length-append (hour ++ 58 ∷ minute) (58 ∷ second), length-append (hour ++ 58 ∷ minute ++ 58 ∷ second) (fraction_part None t.subsec_nanosecond))

-- a moment's text is short
pub length_moment : (text : List ℕ) (seconds : ℕ) → IsMomentText text seconds → length text ≤ 30
length_moment text seconds h =
    let date = date_text h.0.date in
    let time = time_text None h.0.time in
    let same = ap length h.1.is_text in
    omega (arith, same, length-append date (84 ∷ time), length_date h.0.date, length_time h.0.time h.1.is_whole)
