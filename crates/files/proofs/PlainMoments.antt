-- What the plain spelling of a moment is, byte by byte.
use Rattle.std.proofs.Common.{◌≡◌, ◌<◌, ◌+◌, ◌-◌, ◌*◌, ◌/◌, ◌%◌, ℕ, zero, suc, pos, List, [], ◌∷◌, ◌++◌, None, Result, Ok, Err, IfSome, length, get_or, take, drop, refl, sym, ap, ◌∙◌, arith, take_all, length-drop, drop-cons}
use Rattle.std.specs.Result.{result_ok}
use Rattle.std.proofs.Math.Seq.{drop-length}
use Rattle.std.proofs.lemmas.List.{take-append-drop}
use Rattle.jiff_core.specs.declared.civil.date.Date.{Date}
use Rattle.jiff_core.specs.declared.civil.time.Time.{Time}
use Rattle.jiff_core.specs.declared.civil.datetime.DateTime.{DateTime}
use Rattle.jiff.specs.Names.{iso_datetime_text}
use Rattle.jiff_fmt.specs.Text.{pad2, year_text, date_text, time_text, fraction_part}

-- what holds of each value that a result may hold holds of the value taken from it
pub if_some_ok : {X E : Type 0} (r : Result X E) (P : X → Type 0) → ((x : X) → r ≡ Ok x → P x) → IfSome (result_ok r) P
if_some_ok (Ok x) P has = has x refl
if_some_ok (Err e) P has = tt

-- so many bytes from a place on, one by one
abbrev from_place : ℕ → ℕ → List ℕ → List ℕ
from_place zero place bytes = []
from_place (suc n) place bytes = get_or bytes place 0 ∷ from_place n (suc place) bytes

-- they are all of the rest where no more follow
all_from : (n place : ℕ) (bytes : List ℕ) → n + place ≡ length bytes → drop place bytes ≡ from_place n place bytes
all_from zero place bytes e = ap (λ k. drop k bytes) (omega arith) ∙ drop-length bytes
all_from (suc n) place bytes e =
    let inside : place < length bytes = omega arith in
    drop-cons bytes place 0 inside ∙ ap (λ rest. get_or bytes place 0 ∷ rest) (all_from n (suc place) bytes (omega arith))

-- the two bytes from a place on are the digits of the number
abbrev AreDigits : List ℕ → ℕ → ℕ → Type 0
AreDigits bytes place number = pad2 number ≡ get_or bytes place 0 ∷ get_or bytes (suc place) 0 ∷ []

-- four digits of a year are two and two more
year_digits : (century of_century : ℕ) → of_century < 100 → year_text (pos (century * 100 + of_century)) ≡ pad2 century ++ pad2 of_century
year_digits century of_century small =
    let high : (century * 100 + of_century) / 100 ≡ century = omega arith in
    let low : (century * 100 + of_century) % 100 ≡ of_century = omega arith in
    rw (high, low) refl

-- `2024-01-31`
pub plain_date_text : (bytes : List ℕ) (date : Date) (century of_century : ℕ) → length bytes ≡ 10 → date.year ≡ pos (century * 100 + of_century) → of_century < 100
    → AreDigits bytes 0 century → AreDigits bytes 2 of_century → get_or bytes 4 0 ≡ 45 → AreDigits bytes 5 date.month → get_or bytes 7 0 ≡ 45 → AreDigits bytes 8 date.day → date_text date ≡ bytes
plain_date_text bytes date century of_century long is_year small c r dash m dash_2 d =
    let all = all_from 10 0 bytes (sym long) in
    let year = ap year_text is_year ∙ year_digits century of_century small in
    rw year cc

-- `23:59:59`
pub plain_time_text : (bytes : List ℕ) (time : Time) → length bytes ≡ 8 → AreDigits bytes 0 time.hour → get_or bytes 2 0 ≡ 58 → AreDigits bytes 3 time.minute → get_or bytes 5 0 ≡ 58
    → AreDigits bytes 6 time.second → time.subsec_nanosecond ≡ 0 → time_text None time ≡ bytes
plain_time_text bytes time long h colon m colon_2 s whole =
    let all = all_from 8 0 bytes (sym long) in
    let none : fraction_part None time.subsec_nanosecond ≡ [] = rw whole refl in
    cc

-- `2024-01-31T23:59:59`
pub plain_text : (bytes : List ℕ) (moment : DateTime) → length bytes ≡ 19 → date_text moment.date ≡ take 10 bytes → get_or bytes 10 0 ≡ 84 → time_text None moment.time ≡ take (length bytes - 11) (drop 11 bytes)
    → iso_datetime_text moment ≡ bytes
plain_text bytes moment long date letter time =
    let inside : 10 < length bytes = omega arith in
    let rest = drop-cons bytes 10 0 inside in
    let all = take_all (length bytes - 11) (drop 11 bytes) (let left = length-drop 11 bytes in omega (arith, left)) in
    rw (date, time, all) (rw (rest, letter) at (take-append-drop 10 bytes))
