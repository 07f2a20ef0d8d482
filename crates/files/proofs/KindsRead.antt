-- What is read of a field is what it spells, and what is spelt is read.
use Rattle.std.proofs.Common.{◌≡◌, ◌≢◌, ◌≤◌, ◌<◌, ◌^◌, ◌==◌, ◌&&◌, ◌∙◌, ℕ, ℤ, zero, suc, pos, negsuc, neg_ℤ, List, [], ◌∷◌, ◌++◌, drop, length, Bool, true, false, not, nat_le, Option, Some, None, Result, Ok, Err, MatchOption, IfOk, IfErr, IsUtf8, w64, refl, sym, ap, arith, cond}
use Rattle.std.specs.Char.{is_ascii_digit}
use Rattle.std.specs.Fmt.{decimal, signed_decimal}
use Rattle.std.specs.List.{list_all}
use Rattle.std.specs.Str.{bytes_eq, is_utf8}
use Rattle.std.specs.Str.Parse.{digits_value, ParsesSigned}
use Rattle.std.specs.Cmp.Lexicographic.{bytes_decides}
use Rattle.std.proofs.lemmas.Bool.Decides.{nat_tests}
use Rattle.std.proofs.lemmas.Fmt.{decimal_is_IsNumeral}
use Rattle.std.proofs.lemmas.Int.{ints}
use Rattle.std.proofs.lemmas.Str.{is_utf8-from_IsUtf8, IsUtf8-from_is_utf8}
use Rattle.std.proofs.lemmas.Str.Parse.{parse_signed_plain, parse_signed_minus}
use Rattle.std.proofs.lemmas.Result.{IfErr-weaker}
use Rattle.std.proofs.lemmas.Bool.{and_parts}
use Rattle.jiff.specs.Names.{iso_datetime_text}
use Rattle.jiff_core.specs.DateTime.{civil_seconds}
use Rattle.jiff_core.specs.declared.civil.datetime.DateTime.{DateTime}
use Rattle.jiff_core.specs.declared.error.Error.{Error}
use Rattle.jiff_fmt.specs.Temporal.{DateParts, TimeParts, date_parts, time_parts, datetime_view, parse_datetime}
use Rattle.jiff_fmt.specs.Text.{year_text, pad2, fraction_part}
use Rattle.jiff_fmt.proofs.RoundTrip.{parse_datetime-datetime_text}
use Rattle.amounts.specs.Money.{IsMoney, is_money, money}
use Rattle.rows.specs.declared.records.Credit.{Credit}
use Rattle.rows.specs.declared.records.Credit.TheVariants.{Good, Bad}
use Rattle.rows.specs.Text.{is_printable_byte}
use Rattle.files.specs.declared.fault.FaultKind.{FaultKind}
use Rattle.files.specs.declared.fault.FaultKind.TheVariants as fault
use Rattle.files.specs.declared.fields.Fields.{Fields}
use Rattle.files.specs.FieldRead.{FieldsView, fields_view, field_read, is_negative, is_within, next_read, noted, whole_read}
use Rattle.files.specs.KindsRead.{count_read, credit_read, moment_at, moment_read, money_read, optional_read, parts_seconds, parts_text, read_as, signed_value, spelt_moment, word_read}
use Rattle.files.specs.MomentText.{IsMoment, IsMomentText}
use Rattle.files.specs.Number.{is_number, is_positive}
use Rattle.files.specs.Taken.{TakesWell, fields_left, fault_of, with_fault}
use Rattle.files.specs.Word.{credit_text}
use Rattle.files.proofs.Amounts.{money_fits}
use Rattle.files.proofs.Ascii.{utf8_moment}
use Rattle.files.proofs.FieldsRead.{Absent, field_is, given_by, by_result, unsigned_digits, within_digits, not_true}
use Rattle.files.proofs.Numerals.{own, number_plain, number_of_positive, signed_negative, spelling, is_number-decimal, is_number-signed}
use Rattle.files.proofs.ShortNumbers.{number_is_text}
use Rattle.files.proofs.Unlike.{false_unless}

-- what is no text spells no number
pub no_number : (bytes : List ℕ) → (IsUtf8 bytes → ⊥) → is_number bytes ≡ false
no_number bytes none = false_unless (is_number bytes) (λ number. none (number_is_text bytes number))

-- ---- whole numbers

pub whole_sound : (low high : ℕ) (bytes : List ℕ) (n : ℕ) → high < 2 ^ 64 → whole_read low high bytes ≡ Ok n → decimal n ≡ bytes
whole_sound low high bytes n fits e = by (is_number bytes) refl (is_within low high bytes) refl
  where
    by : (b : Bool) → is_number bytes ≡ b → (w : Bool) → is_within low high bytes ≡ w → decimal n ≡ bytes
    by false number w is = let no = rw number at e in absurd cc
    by true number false is = let no = rw (number, is) at e in absurd cc
    by true number true is =
        let value : digits_value 10 bytes ≡ n = let v = rw (number, is) at e in cc in
        let plain = (and_parts (not (is_negative bytes)) _ is).0 in
        let ends = and_parts (nat_le low (digits_value 10 bytes)) (nat_le (digits_value 10 bytes) high) (and_parts (not (is_negative bytes)) _ is).1 in
        let most : digits_value 10 bytes ≤ high = let m = ends.1 in grind (arith, nat_tests, m) in
        let digits = unsigned_digits bytes number (not_true (is_negative bytes) plain) in
        ap decimal (sym value) ∙ spelling bytes number digits.0 digits.1 (omega (arith, most, fits))

pub whole_complete : (low high n : ℕ) → n < 2 ^ 64 → low ≤ n → n ≤ high → whole_read low high (decimal n) ≡ Ok n
whole_complete low high n small least most =
    let is = within_digits low high n (decimal n) refl small least most in
    rw (is_number-decimal n small, is.0, is.1) refl

-- ---- counts

pub count_ok : (count number : ℕ) (bytes : List ℕ) → number ≡ count → Ok number ≡ whole_read count count bytes → Ok number ≡ count_read count bytes
count_ok count number bytes same e = by (is_number bytes) refl (is_within count count bytes) refl
  where
    by : (b : Bool) → is_number bytes ≡ b → (w : Bool) → is_within count count bytes ≡ w → Ok number ≡ count_read count bytes
    by false spelt w is = let no = rw spelt at e in absurd cc
    by true spelt false is = let no = rw (spelt, is) at e in absurd cc
    by true spelt true is = rw (spelt, is, same) refl

pub count_other : (count : ℕ) (bytes : List ℕ) → Err fault.OutOfRange ≡ whole_read count count bytes → Err fault.WrongCount ≡ count_read count bytes
count_other count bytes e = by (is_number bytes) refl (is_within count count bytes) refl
  where
    by : (b : Bool) → is_number bytes ≡ b → (w : Bool) → is_within count count bytes ≡ w → Err fault.WrongCount ≡ count_read count bytes
    by false spelt w is = let no = rw spelt at e in absurd cc
    by true spelt true is = let no = rw (spelt, is) at e in absurd cc
    by true spelt false is = rw (spelt, is) refl

pub count_complete : (n : ℕ) → n < 2 ^ 64 → count_read n (decimal n) ≡ Ok n
count_complete n small =
    let is = within_digits n n n (decimal n) refl small (omega arith) (omega arith) in
    rw (is_number-decimal n small, is.0) refl

pub count_sound : (count n : ℕ) (bytes : List ℕ) → count < 2 ^ 64 → count_read count bytes ≡ Ok n → decimal count ≡ bytes
count_sound count n bytes fits e = by (is_number bytes) refl (is_within count count bytes) refl
  where
    by : (b : Bool) → is_number bytes ≡ b → (w : Bool) → is_within count count bytes ≡ w → decimal count ≡ bytes
    by false number w is = let no = rw number at e in absurd cc
    by true number false is = let no = rw (number, is) at e in absurd cc
    by true number true is =
        let ends = and_parts (nat_le count (digits_value 10 bytes)) (nat_le (digits_value 10 bytes) count) (and_parts (not (is_negative bytes)) _ is).1 in
        let least : count ≤ digits_value 10 bytes = let l = ends.0 in grind (arith, nat_tests, l) in
        let most : digits_value 10 bytes ≤ count = let m = ends.1 in grind (arith, nat_tests, m) in
        let value : digits_value 10 bytes ≡ count = omega (arith, least, most) in
        whole_sound count count bytes count fits (rw (number, is, value) refl)

-- ---- money

signed_digits : (cs : List ℕ) → is_positive cs ≡ true → (list_all is_ascii_digit cs ≡ true) × (0 < length cs)
signed_digits [] h = absurd cc
signed_digits (c ∷ cs) h = ((and_parts (not (c == 48)) _ h).1, omega arith)

-- where nothing was read of a number's spelling, it is out of range
pub too_much : {E : Type 0} (bs : List ℕ) (r : Result ℤ E) (error : E) → ParsesSigned w64 10 bs r → is_number bs ≡ true → r ≡ Err error → money (signed_value bs) ≡ None
too_much {E} [] r error h number e = let no : false ≡ true = number in absurd cc
too_much {E} (c ∷ cs) r error h number e =
    elim (c == 45) as (λ test. c == 45 ≡ test → money (signed_value (c ∷ cs)) ≡ None) [
      | true ↦ λ minus.
          let is_minus : c ≡ 45 = grind (arith, nat_tests) in
          let positive : is_positive cs ≡ true = grind (arith, nat_tests) in
          let digits = signed_digits cs positive in
          let read = rw e at (parse_signed_minus own w64 (c ∷ cs) r h is_minus) in
          rw minus (far_below (digits_value 10 cs) (λ small. read (digits.0, digits.1, small)))
      | false ↦ λ other.
          let no_minus : c ≢ 45 = grind (arith, nat_tests) in
          let plain : is_negative (c ∷ cs) ≡ false = other in
          let digits = unsigned_digits (c ∷ cs) number plain in
          let read = rw e at (parse_signed_plain own w64 (c ∷ cs) r h (number_plain (c ∷ cs) number) no_minus) in
          rw other (far_above (digits_value 10 (c ∷ cs)) (λ small. read (digits.0, digits.1, small)))
    ] refl
  where
    far_below : (n : ℕ) → (n ≤ 2 ^ 63 → ⊥) → money (neg_ℤ (pos n)) ≡ None
    far_below n far =
        let high : 2 ^ 63 < n = omega (arith, far) in
        let out : is_money (neg_ℤ (pos n)) ≡ false = grind (arith, ints, high) in
        rw out refl

    far_above : (n : ℕ) → (n < 2 ^ 63 → ⊥) → money (pos n) ≡ None
    far_above n far =
        let high : 2 ^ 63 ≤ n = omega (arith, far) in
        let out : is_money (pos n) ≡ false = grind (arith, ints, high) in
        rw out refl

value_of_decimal : (n : ℕ) → n < 2 ^ 64 → digits_value 10 (decimal n) ≡ n
value_of_decimal n small = (decimal_is_IsNumeral n small).1

signed_plain : (bytes : List ℕ) (n : ℕ) → is_negative bytes ≡ false → digits_value 10 bytes ≡ n → is_number bytes ≡ true → signed_value bytes ≡ pos n
signed_plain [] n plain value number = let no : false ≡ true = number in absurd cc
signed_plain (byte ∷ bytes) n plain value number = rw plain (ap pos value)

pub value_of_signed : (z : ℤ) → IsMoney z → signed_value (signed_decimal z) ≡ z
value_of_signed (pos n) m =
    let high = m.high in
    let small : n < 2 ^ 64 = omega (arith, ints) in
    let is = within_digits 0 n n (decimal n) refl small (omega arith) (omega arith) in
    signed_plain (decimal n) n (not_true (is_negative (decimal n)) (and_parts (not (is_negative (decimal n))) _ is.0).0) (value_of_decimal n small) (is_number-decimal n small)
value_of_signed (negsuc n) m =
    let low = m.low in
    let small : suc n < 2 ^ 64 = omega (arith, ints) in
    ap (λ v. neg_ℤ (pos v)) (value_of_decimal (suc n) small)

pub money_complete : (z : ℤ) → IsMoney z → money_read (signed_decimal z) ≡ Ok z
money_complete z m =
    let low = m.low in
    let high = m.high in
    let inside : is_money z ≡ true = grind (arith, ints) in
    rw (is_number-signed z (money_fits z m), value_of_signed z m, inside) refl

pub money_sound : (bytes : List ℕ) (z : ℤ) → money_read bytes ≡ Ok z → signed_decimal z ≡ bytes
money_sound bytes z e = by (is_number bytes) refl (is_money (signed_value bytes)) refl
  where
    spelt : (bytes : List ℕ) → is_number bytes ≡ true → is_money (signed_value bytes) ≡ true → signed_decimal (signed_value bytes) ≡ bytes
    spelt [] number inside = let no : false ≡ true = number in absurd cc
    spelt (c ∷ cs) number inside =
        elim (c == 45) as (λ test. c == 45 ≡ test → signed_decimal (signed_value (c ∷ cs)) ≡ c ∷ cs) [
          | true ↦ λ minus.
              let is_minus : c ≡ 45 = grind (arith, nat_tests) in
              let positive : is_positive cs ≡ true = grind (arith, nat_tests) in
              let digits = signed_digits cs positive in
              let within : is_money (neg_ℤ (pos (digits_value 10 cs))) ≡ true = rw minus at inside in
              let small = near_below (digits_value 10 cs) within in
              let text : decimal (digits_value 10 cs) ≡ cs = spelling cs (number_of_positive cs positive) digits.0 digits.1 small in
              rw (minus, is_minus) (signed_negative (digits_value 10 cs) cs text positive)
          | false ↦ λ other.
              let plain : is_negative (c ∷ cs) ≡ false = other in
              let digits = unsigned_digits (c ∷ cs) number plain in
              let within : is_money (pos (digits_value 10 (c ∷ cs))) ≡ true = rw other at inside in
              rw other (spelling (c ∷ cs) number digits.0 digits.1 (near_above (digits_value 10 (c ∷ cs)) within))
        ] refl
      where
        near_below : (n : ℕ) → is_money (neg_ℤ (pos n)) ≡ true → n < 2 ^ 64
        near_below zero h = omega arith
        near_below (suc n) h = grind (arith, ints)

        near_above : (n : ℕ) → is_money (pos n) ≡ true → n < 2 ^ 64
        near_above n h = grind (arith, ints)

    by : (b : Bool) → is_number bytes ≡ b → (w : Bool) → is_money (signed_value bytes) ≡ w → signed_decimal z ≡ bytes
    by false number w is = let no = rw number at e in absurd cc
    by true number false is = let no = rw (number, is) at e in absurd cc
    by true number true is =
        let value : signed_value bytes ≡ z = let v = rw (number, is) at e in cc in
        ap signed_decimal (sym value) ∙ spelt bytes number is

-- the same of what a parser gives
pub if_money : (bytes : List ℕ) (r : Result ℤ FaultKind) → r ≡ money_read bytes → IfOk r (λ z. signed_decimal z ≡ bytes)
if_money bytes (Ok z) is = money_sound bytes z (sym is)
if_money bytes (Err kind) is = tt

-- ---- credits

pub credit_complete : (credit : Credit) → credit_read (credit_text credit) ≡ Ok credit
credit_complete Good = refl
credit_complete Bad = refl

pub credit_sound : (bytes : List ℕ) (credit : Credit) → credit_read bytes ≡ Ok credit → credit_text credit ≡ bytes
credit_sound bytes credit e = by (bytes_eq bytes (credit_text Good)) refl (bytes_eq bytes (credit_text Bad)) refl (list_all is_printable_byte bytes) refl
  where
    by : (g : Bool) → bytes_eq bytes (credit_text Good) ≡ g → (b : Bool) → bytes_eq bytes (credit_text Bad) ≡ b → (p : Bool) → list_all is_printable_byte bytes ≡ p → credit_text credit ≡ bytes
    by true good b bad p printable =
        let is : Good ≡ credit = let v = rw good at e in cc in
        ap credit_text (sym is) ∙ sym ((bytes_decides bytes (credit_text Good)).0 good)
    by false good true bad p printable =
        let is : Bad ≡ credit = let v = rw (good, bad) at e in cc in
        ap credit_text (sym is) ∙ sym ((bytes_decides bytes (credit_text Bad)).0 bad)
    by false good false bad true printable = let no = rw (good, bad, printable) at e in absurd cc
    by false good false bad false printable = let no = rw (good, bad, printable) at e in absurd cc

-- ---- fields that may be empty

pub optional_some : {X : Type 0} (read : List ℕ → Result X FaultKind) (bytes : List ℕ) (value : X) → (bytes ≡ [] → ⊥) → read bytes ≡ Ok value → optional_read read bytes ≡ Ok (Some value)
optional_some {X} read [] value some e = absurd (some refl)
optional_some {X} read (byte ∷ bytes) value some e = rw e refl

pub optional_is : {X : Type 0} (read : List ℕ → Result X FaultKind) (bytes : List ℕ) (value : Option X) → optional_read read bytes ≡ Ok value → MatchOption value (bytes ≡ []) (λ v. read bytes ≡ Ok v)
optional_is {X} read [] None e = refl
optional_is {X} read [] (Some v) e = absurd cc
optional_is {X} read (byte ∷ bytes) value e = by (read (byte ∷ bytes)) refl value e
  where
    by : (r : Result X FaultKind) → read (byte ∷ bytes) ≡ r → (value : Option X) → read_as (λ v. Some v) (read (byte ∷ bytes)) ≡ Ok value → MatchOption value (byte ∷ bytes ≡ []) (λ v. read (byte ∷ bytes) ≡ Ok v)
    by (Ok v) is None e = let no = rw is at e in absurd cc
    by (Ok v) is (Some w) e = let same : v ≡ w = let is_it = rw is at e in cc in is ∙ ap Ok same
    by (Err kind) is value e = let no = rw is at e in absurd cc

-- ---- of a record

-- a field that was taken and parsed is read as it is defined
pub field_from : {X : Type 0} (read : List ℕ → Result X FaultKind) (other stood value : X) (f b n : Fields) (word : List ℕ) (parsed : Result X FaultKind)
    → Absent read other → parsed ≡ read word → stood ≡ other
    → fields_left b ≡ drop 1 (fields_left f)
    → (fields_left f ≡ [] → (word ≡ []) × (fault_of b ≡ Some (with_fault (fault_of f) fault.WrongShape)))
    → ((field : List ℕ) (rest : List (List ℕ)) → fields_left f ≡ field ∷ rest → (word ≡ field) × (fault_of b ≡ fault_of f))
    → fields_left n ≡ fields_left b
    → IfOk parsed (λ v. (value ≡ v) × (fault_of n ≡ fault_of b)) → IfErr parsed (λ kind. fault_of n ≡ Some (with_fault (fault_of b) kind)) → IfErr parsed (λ kind. value ≡ stood)
    → ◌≡◌ {A = X × FieldsView} (value, fields_view n) (field_read read other (fields_view f))
field_from {X} read other stood value f b n word parsed empty is same left none some kept ok err stands =
    field_is read other value (fields_left f) (fields_left n) (fault_of f) (fault_of b) (fault_of n) word (kept ∙ left) none some empty
    (given_by (read word) parsed other value (fault_of b) (fault_of n) is
    (by_result parsed other value (fault_of b) (fault_of n) ok err (IfErr-weaker parsed _ _ (λ kind e. e ∙ same) stands)))

-- a field that was taken without a fault, and what it was read as
pub record TookField {X : Type 0} (read : List ℕ → Result X FaultKind) (value : X) (old new : List (List ℕ)) (known : Option FaultKind) : Type 0 where
  pub faultless : known ≡ None
  pub text : List ℕ
  pub is_read : read text ≡ Ok value
  pub left : old ≡ text ∷ new

pub took_next : {X : Type 0} (read : List ℕ → Result X FaultKind) (other value : X) (old new : List (List ℕ)) (known after : Option FaultKind)
    → ◌≡◌ {A = X × FieldsView} (value, record { left = new; fault = after }) (next_read read other old known) → after ≡ None → TookField read value old new known
took_next {X} read other value [] new known after is none =
    let clash : after ≡ noted known fault.WrongShape = ap (λ (p : X × FieldsView). p.1.fault) is in
    absurd cc
took_next {X} read other value (text ∷ rest) new known after is none = by (read text) refl
  where
    by : (r : Result X FaultKind) → read text ≡ r → TookField read value (text ∷ rest) new known
    by (Ok v) e =
        let done = rw e at is in
        let same : value ≡ v = ap (λ (p : X × FieldsView). p.0) done in
        let left : new ≡ rest = ap (λ (p : X × FieldsView). p.1.left) done in
        let faults : after ≡ known = ap (λ (p : X × FieldsView). p.1.fault) done in
        record { faultless = sym faults ∙ none; text = text; is_read = e ∙ ap Ok (sym same); left = ap (λ l. text ∷ l) (sym left) }
    by (Err kind) e =
        let done = rw e at is in
        let clash : after ≡ noted known kind = ap (λ (p : X × FieldsView). p.1.fault) done in
        absurd cc

pub took_field : {X : Type 0} (read : List ℕ → Result X FaultKind) (other value : X) (f n : Fields)
    → ◌≡◌ {A = X × FieldsView} (value, fields_view n) (field_read read other (fields_view f)) → fault_of n ≡ None → TookField read value (fields_left f) (fields_left n) (fault_of f)
took_field {X} read other value f n is none = took_next read other value (fields_left f) (fields_left n) (fault_of f) (fault_of n) is none

-- and it spells what it was read as
pub takes_field : {X : Type 0} (read : List ℕ → Result X FaultKind) (other value : X) (f n : Fields) (spelling : List ℕ)
    → ◌≡◌ {A = X × FieldsView} (value, fields_view n) (field_read read other (fields_view f)) → ((text : List ℕ) → read text ≡ Ok value → spelling ≡ text) → TakesWell f n spelling
takes_field {X} read other value f n spelling is sound = λ none.
    let took = took_field read other value f n is none in
    (took.faultless, took.left ∙ ap (λ t. t ∷ fields_left n) (sym (sound took.text took.is_read)))

-- bytes that are some are read as those of a column that is never empty
pub optional_of : {X : Type 0} (read : List ℕ → Result X FaultKind) (bytes : List ℕ) (r : Result X FaultKind) → (length bytes == 0) ≡ false → r ≡ read bytes → read_as (λ v. Some v) r ≡ optional_read read bytes
optional_of {X} read [] r some e = let no : true ≡ false = some in absurd cc
optional_of {X} read (byte ∷ bytes) r some e = ap (read_as (λ v. Some v)) e

-- a field that may be empty spells what it was read as
pub optional_takes : {X : Type 0} (read : List ℕ → Result X FaultKind) (spelling : X → List ℕ) (value : Option X) (f n : Fields)
    → ◌≡◌ {A = Option X × FieldsView} (value, fields_view n) (field_read (optional_read read) None (fields_view f)) → ((text : List ℕ) (v : X) → read text ≡ Ok v → spelling v ≡ text)
    → MatchOption value (TakesWell f n []) (λ v. TakesWell f n (spelling v))
optional_takes {X} read spelling None f n is sound = takes_field (optional_read read) None None f n [] is (λ text e. sym (optional_is read text None e))
optional_takes {X} read spelling (Some v) f n is sound = takes_field (optional_read read) None (Some v) f n (spelling v) is (λ text e. sound text v (optional_is read text (Some v) e))

-- ---- moments

-- what jiff doesn't read is no moment
pub moment_unread : (text : List ℕ) (r : Result DateTime Error) (error : Error) → datetime_view r ≡ parse_datetime text → r ≡ Err error → Err fault.NotOfKind ≡ moment_read text
unfolding moment_read
moment_unread text r error view e =
    let unread : parse_datetime text ≡ datetime_view (Err error) = sym view ∙ ap datetime_view e in
    elim (is_utf8 text) as (λ b. Err fault.NotOfKind ≡ cond b (spelt_moment text (parse_datetime text)) (Err fault.NotOfKind)) [ true ↦ rw unread refl | false ↦ refl ]

-- what jiff reads is a moment, where it is spelt so
pub moment_of : (text : List ℕ) (r : Result DateTime Error) (moment : DateTime) (b : Bool) → IsUtf8 text → datetime_view r ≡ parse_datetime text → r ≡ Ok moment
    → (bytes_eq (iso_datetime_text moment) text && (moment.time.subsec_nanosecond == 0)) ≡ b → cond b (moment_at (civil_seconds moment)) (Err fault.NotOfKind) ≡ moment_read text
unfolding moment_read civil_seconds
moment_of text r moment b utf8 view e is =
    let unread : parse_datetime text ≡ datetime_view (Ok moment) = sym view ∙ ap datetime_view e in
    let given : is_utf8 text ≡ true = is_utf8-from_IsUtf8 text utf8 in
    let read : spelt_moment text (datetime_view (Ok moment)) ≡ cond b (moment_at (parts_seconds (date_parts moment.date) (time_parts moment.time))) (Err fault.NotOfKind) = ap (λ t. cond t (moment_at (parts_seconds (date_parts moment.date) (time_parts moment.time))) (Err fault.NotOfKind)) is in
    sym (rw (given, unread) read)

-- whether it is
pub spelt_test : (text : List ℕ) (moment : DateTime) → iso_datetime_text moment ≡ text → moment.time.subsec_nanosecond ≡ 0 → (bytes_eq (iso_datetime_text moment) text && (moment.time.subsec_nanosecond == 0)) ≡ true
spelt_test text moment spelt whole =
    let same : bytes_eq (iso_datetime_text moment) text ≡ true = (bytes_decides (iso_datetime_text moment) text).1 spelt in
    rw (same, whole) refl

-- what is spelt as a moment is read
pub moment_complete : (text : List ℕ) (seconds : ℕ) → IsMomentText text seconds → IsMoment seconds → moment_read text ≡ Ok seconds
moment_complete text seconds (moment, s) most =
    let view : datetime_view (Ok moment) ≡ parse_datetime text = sym (parse_datetime-datetime_text moment) ∙ ap parse_datetime s.is_text in
    let read = moment_of text (Ok moment) moment true (utf8_moment text seconds (moment, s)) view refl (spelt_test text moment s.is_text s.is_whole) in
    let within : nat_le seconds 253402300799 ≡ true = grind (arith, nat_tests, most) in
    sym read ∙ ap moment_at s.is_second ∙ rw within refl

pub spelt_not : (text : List ℕ) (moment : DateTime) → ((iso_datetime_text moment ≡ text) × (moment.time.subsec_nanosecond ≡ 0) → ⊥) → (bytes_eq (iso_datetime_text moment) text && (moment.time.subsec_nanosecond == 0)) ≡ false
spelt_not text moment other = false_unless (bytes_eq (iso_datetime_text moment) text && (moment.time.subsec_nanosecond == 0)) (λ h.
    let parts = and_parts (bytes_eq (iso_datetime_text moment) text) (moment.time.subsec_nanosecond == 0) h in
    let whole : moment.time.subsec_nanosecond ≡ 0 = let z = parts.1 in grind (arith, nat_tests, z) in
    other ((bytes_decides (iso_datetime_text moment) text).0 parts.0, whole))

pub no_moment : (bytes : List ℕ) → (IsUtf8 bytes → ⊥) → moment_read bytes ≡ Err fault.NotOfKind
unfolding moment_read
no_moment bytes none =
    let other : is_utf8 bytes ≡ false = false_unless (is_utf8 bytes) (λ h. none (IsUtf8-from_is_utf8 bytes h)) in
    rw other refl

not_empty : (xs ys : List ℕ) (y : ℕ) → bytes_eq (xs ++ (y ∷ ys)) [] ≡ false
not_empty [] ys y = refl
not_empty (x ∷ xs) ys y = refl

unspelt : (r : Result (DateParts × TimeParts) Error) → spelt_moment [] r ≡ Err fault.NotOfKind
unspelt (Ok (date, time)) =
    let other : bytes_eq (parts_text date time) [] ≡ false = not_empty (year_text date.year ++ 45 ∷ [] ++ pad2 date.month ++ 45 ∷ [] ++ pad2 date.day) (pad2 time.hour ++ 58 ∷ pad2 time.minute ++ 58 ∷ pad2 time.second ++ fraction_part None time.subsec) 84 in
    rw other refl
unspelt (Err error) = refl

pub no_bytes_no_moment : moment_read [] ≡ Err fault.NotOfKind
unfolding moment_read
no_bytes_no_moment = elim (is_utf8 []) as (λ b. cond b (spelt_moment [] (parse_datetime [])) (Err fault.NotOfKind) ≡ Err fault.NotOfKind) [ true ↦ unspelt (parse_datetime []) | false ↦ refl ]

pub word_is : (bytes : List ℕ) → IsUtf8 bytes → word_read bytes ≡ Ok bytes
unfolding word_read
word_is bytes utf8 = rw (is_utf8-from_IsUtf8 bytes utf8) refl

pub no_word : (bytes : List ℕ) → (IsUtf8 bytes → ⊥) → word_read bytes ≡ Err fault.NotOfKind
unfolding word_read
no_word bytes none =
    let other : is_utf8 bytes ≡ false = false_unless (is_utf8 bytes) (λ h. none (IsUtf8-from_is_utf8 bytes h)) in
    rw other refl
