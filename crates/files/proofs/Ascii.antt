-- What is spelt in a file is ASCII, and so it is text.
use Rattle.std.proofs.Common.{Ok, length, suc, neg_ℤ, ◌≤ℤ◌, ◌≡◌, ◌<◌, ◌/◌, ◌%◌, ◌+◌, ◌^◌, ℕ, ℤ, pos, negsuc, true, nat_le, None, List, [], ◌∷◌, ◌++◌, IsUtf8, codes, refl, sym, subst, arith}
use Rattle.std.specs.Str.{IsAscii}
use Rattle.std.specs.List.{list_all}
use Rattle.std.specs.Fmt.{decimal}
use Rattle.std.proofs.lemmas.Int.{ints}
use Rattle.std.proofs.lemmas.Bool.Decides.{nat_tests}
use Rattle.std.proofs.lemmas.Fmt.{IsAscii-decimal}
use Rattle.std.proofs.lemmas.Str.{IsUtf8-from_ascii, IsAscii-append}
use Rattle.std.proofs.lemmas.Str.Ascii.{IsAscii-nil, IsAscii-cons}
use lib.Signed.{mag}
use Rattle.jiff_core.specs.declared.civil.date.Date.{Date}
use Rattle.jiff_core.specs.declared.civil.time.Time.{Time}
use Rattle.jiff_core.proofs.CalendarLemmas.{days_in_month_bounds}
use Rattle.jiff_fmt.specs.Text.{pad2, pad4, year_text, date_text, time_text, fraction_part}
use Rattle.amounts.specs.Money.{IsMoney}
use Rattle.rows.specs.Text.{IsText, is_printable_byte}
use Rattle.rows.proofs.Ascii.{ascii_words}
use Rattle.files.specs.MomentText.{IsMomentText}
use Rattle.files.specs.Word.{text_read}

pub utf8_number : (n : ℕ) → n < 2 ^ 64 → IsUtf8 (decimal n)
utf8_number n h = IsUtf8-from_ascii (decimal n) (IsAscii-decimal n h)

-- std prints an amount whole
pub small_money : (z : ℤ) → IsMoney z → mag z < 2 ^ 63
small_money (pos n) m = let high = m.high in omega (arith, ints)
small_money (negsuc n) m = let low = m.low in omega (arith, ints)

pub utf8_text : (width : ℕ) (bytes : List ℕ) → IsText width bytes → IsUtf8 bytes
utf8_text width bytes h = IsUtf8-from_ascii bytes (ascii_words bytes h.printable)

-- ---- moments

ascii_pad2 : (n : ℕ) → n < 800 → IsAscii (pad2 n)
ascii_pad2 n h = IsAscii-cons (48 + n / 10) ((48 + n % 10) ∷ []) (omega arith) (IsAscii-cons (48 + n % 10) [] (omega arith) IsAscii-nil)

ascii_pad4 : (n : ℕ) → n < 10000 → IsAscii (pad4 n)
ascii_pad4 n h = IsAscii-append (pad2 (n / 100)) (pad2 (n % 100)) (ascii_pad2 (n / 100) (omega arith)) (ascii_pad2 (n % 100) (omega arith))

ascii_dash : IsAscii (45 ∷ [])
ascii_dash = IsAscii-cons 45 [] (omega arith) IsAscii-nil

-- the first year that can be is 9999 before 0, and the last one 9999
ascii_year : (y : ℤ) → neg_ℤ (pos 9999) ≤ℤ y → y ≤ℤ pos 9999 → IsAscii (year_text y)
ascii_year (pos n) low high = ascii_pad4 n (omega (arith, ints))
ascii_year (negsuc n) low high = IsAscii-append (codes "-00") (pad4 (suc n)) (ascii_words (codes "-00") refl) (ascii_pad4 (suc n) (omega (arith, ints)))

ascii_date : (d : Date) → IsAscii (date_text d)
ascii_date d =
    let year = ascii_year d.year d.year_in.0 d.year_in.1 in
    let month = ascii_pad2 d.month (omega (arith, d.month_in)) in
    let day = ascii_pad2 d.day (omega (arith, d.day_in, days_in_month_bounds d.year d.month)) in
    IsAscii-append (year_text d.year ++ 45 ∷ [] ++ pad2 d.month ++ 45 ∷ []) (pad2 d.day)
    (IsAscii-append (year_text d.year ++ 45 ∷ [] ++ pad2 d.month) (45 ∷ [])
    (IsAscii-append (year_text d.year ++ 45 ∷ []) (pad2 d.month) (IsAscii-append (year_text d.year) (45 ∷ []) year ascii_dash) month) ascii_dash) day

ascii_colon : (bytes : List ℕ) → IsAscii bytes → IsAscii (58 ∷ bytes)
ascii_colon bytes h = IsAscii-cons 58 bytes (omega arith) h

ascii_time : (t : Time) → t.subsec_nanosecond ≡ 0 → IsAscii (time_text None t)
ascii_time t whole =
    let hour = ascii_pad2 t.hour (omega (arith, t.hour_in)) in
    let minute = ascii_pad2 t.minute (omega (arith, t.minute_in)) in
    let second = ascii_pad2 t.second (omega (arith, t.second_in)) in
    let clock = IsAscii-append (pad2 t.hour ++ 58 ∷ pad2 t.minute) (58 ∷ pad2 t.second)
    (IsAscii-append (pad2 t.hour) (58 ∷ pad2 t.minute) hour (ascii_colon (pad2 t.minute) minute)) (ascii_colon (pad2 t.second) second) in
    let fraction : IsAscii (fraction_part None t.subsec_nanosecond) = subst (λ n. IsAscii (fraction_part None n)) (sym whole) IsAscii-nil in
    IsAscii-append (pad2 t.hour ++ 58 ∷ pad2 t.minute ++ 58 ∷ pad2 t.second) (fraction_part None t.subsec_nanosecond) clock fraction

pub utf8_moment : (text : List ℕ) (seconds : ℕ) → IsMomentText text seconds → IsUtf8 text
utf8_moment text seconds h =
    let whole = IsAscii-append (date_text h.0.date) (84 ∷ time_text None h.0.time) (ascii_date h.0.date)
    (IsAscii-cons 84 (time_text None h.0.time) (omega arith) (ascii_time h.0.time h.1.is_whole)) in
    IsUtf8-from_ascii text (subst IsAscii h.1.is_text whole)

-- a text of that width is read
pub text_is_read : (width : ℕ) (text : List ℕ) → IsText width text → text_read width text ≡ Ok text
text_is_read width text h =
    let printable : list_all is_printable_byte text ≡ true = h.printable in
    let fits : nat_le (length text) width ≡ true = let f = h.fits in grind (arith, nat_tests) in
    rw (printable, fits) refl
