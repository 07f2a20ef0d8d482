-- A field that was parsed is read as it is defined.
use Rattle.std.proofs.Common.{◌≡◌, ◌≤◌, ◌<◌, ◌^◌, ◌↔◌, ◌⊎◌, ◌==◌, inl, inr, ℕ, List, [], ◌∷◌, drop, length, Bool, true, false, not, nat_le, Option, Some, None, Result, Ok, Err, MatchResult, IfOk, IfErr, refl, ap, subst, arith}
use Rattle.std.specs.Prelude.{if◌then◌else◌}
use Rattle.std.specs.Char.{is_ascii_digit}
use Rattle.std.specs.Fmt.{decimal}
use Rattle.std.specs.List.{list_all}
use Rattle.std.specs.Str.Parse.{digits_value}
use Rattle.std.proofs.lemmas.Bool.Decides.{nat_tests}
use Rattle.std.proofs.lemmas.Fmt.{decimal_is_IsNumeral}
use Rattle.std.proofs.lemmas.Bool.{and_parts}
use Rattle.files.specs.declared.fault.FaultKind.{FaultKind}
use Rattle.files.specs.declared.fault.FaultKind.TheVariants as fault
use Rattle.files.specs.Fault.{fault_number, least_fault}
use Rattle.files.specs.FieldRead.{FieldsView, is_negative, is_within, next_read, noted, value_or, whole_read}
use Rattle.files.specs.Number.{is_number, is_positive}
use Rattle.files.specs.Word.{text_read}
use Rattle.files.proofs.Numerals.{all_digits_decimal, is_number-decimal, spelling}

not_negative : (bytes : List ℕ) → list_all is_ascii_digit bytes ≡ true → is_negative bytes ≡ false
not_negative [] h = refl
not_negative (byte ∷ bytes) h = grind (arith, nat_tests)

-- what spells a number without a minus sign is digits
pub unsigned_digits : (bytes : List ℕ) → is_number bytes ≡ true → is_negative bytes ≡ false → (list_all is_ascii_digit bytes ≡ true) × (0 < length bytes)
unsigned_digits [] number plain = absurd (cc number)
unsigned_digits (byte ∷ bytes) number plain =
    let spelt : (if byte == 48 then length bytes == 0 else is_positive (byte ∷ bytes)) ≡ true = rw plain at number in (
      elim (byte == 48) as (λ t. byte == 48 ≡ t → list_all is_ascii_digit (byte ∷ bytes) ≡ true) [
        | true ↦ λ z. zero_digit byte bytes z (rw z at spelt)
        | false ↦ λ z. rw z at spelt
      ] refl,
      omega arith,
    )
  where
    zero_digit : (byte : ℕ) (bytes : List ℕ) → byte == 48 ≡ true → (length bytes == 0) ≡ true → list_all is_ascii_digit (byte ∷ bytes) ≡ true
    zero_digit byte [] z none = let same : byte ≡ 48 = grind (arith, nat_tests) in rw same refl
    zero_digit byte (more ∷ bytes) z none = absurd (grind (arith, nat_tests, none))

pub within_digits : (low high number : ℕ) (bytes : List ℕ) → decimal number ≡ bytes → number < 2 ^ 64 → low ≤ number → number ≤ high → (is_within low high bytes ≡ true) × (digits_value 10 bytes ≡ number)
within_digits low high number bytes spelt fits least most =
    let value : digits_value 10 bytes ≡ number = subst (λ b. digits_value 10 b ≡ number) spelt (decimal_is_IsNumeral number fits).1 in
    let plain : is_negative bytes ≡ false = not_negative bytes (subst (λ b. list_all is_ascii_digit b ≡ true) spelt (all_digits_decimal number fits)) in
    let above : nat_le low number ≡ true = grind (arith, nat_tests) in
    let below : nat_le number high ≡ true = grind (arith, nat_tests) in
    (rw (plain, value, above, below) refl, value)

pub not_true : (b : Bool) → not b ≡ true → b ≡ false
not_true true h = cc h
not_true false h = refl

-- the clauses of a parser of numbers say what is read
pub whole_is : (low high : ℕ) (bytes : List ℕ) (r : Result ℕ FaultKind) → high < 2 ^ 64 → IfOk r (λ n. decimal n ≡ bytes) → IfOk r (λ n. (low ≤ n) × (n ≤ high))
    → ((n : ℕ) → decimal n ≡ bytes → low ≤ n → n ≤ high → r ≡ Ok n) → (r ≡ Err fault.NotOfKind) ↔ (is_number bytes ≡ false)
    → IfErr r (λ kind. (kind ≡ fault.NotOfKind) ⊎ (kind ≡ fault.OutOfRange)) → r ≡ whole_read low high bytes
whole_is low high bytes (Ok number) fits value range reads no_kind faults =
    let small : number < 2 ^ 64 = let most = range.1 in omega (arith, most, fits) in
    let is = within_digits low high number bytes value small range.0 range.1 in
    let spelt : is_number bytes ≡ true = subst (λ b. is_number b ≡ true) value (is_number-decimal number small) in
    rw (spelt, is.0, is.1) refl
whole_is low high bytes (Err kind) fits value range reads no_kind (inl e) =
    let none = no_kind.0 (ap Err e) in rw (none, e) refl
whole_is low high bytes (Err kind) fits value range reads no_kind (inr e) =
    by (is_number bytes) refl (is_within low high bytes) refl
  where
    by : (b : Bool) → is_number bytes ≡ b → (w : Bool) → is_within low high bytes ≡ w → Err kind ≡ whole_read low high bytes
    by false none w is = let no = no_kind.1 none in let clash : fault.NotOfKind ≡ fault.OutOfRange = cc in absurd (cc clash)
    by true number false is = rw (number, is, e) refl
    by true number true is =
        let plain = (and_parts (not (is_negative bytes)) _ is).0 in
        let ends = and_parts (nat_le low (digits_value 10 bytes)) (nat_le (digits_value 10 bytes) high) (and_parts (not (is_negative bytes)) _ is).1 in
        let least : low ≤ digits_value 10 bytes = let l = ends.0 in grind (arith, nat_tests, l) in
        let most : digits_value 10 bytes ≤ high = let m = ends.1 in grind (arith, nat_tests, m) in
        let digits = unsigned_digits bytes number (not_true (is_negative bytes) plain) in
        let spelt = spelling bytes number digits.0 digits.1 (omega (arith, most, fits)) in
        let clash = reads (digits_value 10 bytes) spelt least most in
        absurd cc

-- a fault of the shape stays, beside one of a greater number
shape_stays : (known : Option FaultKind) (kind : FaultKind) → 2 ≤ fault_number kind → noted (noted known fault.WrongShape) kind ≡ noted known fault.WrongShape
shape_stays None kind more = let stays : nat_le 2 (fault_number kind) ≡ true = grind (arith, nat_tests) in rw stays refl
shape_stays (Some known) kind more = ap (λ (k : FaultKind). Some k) (by (nat_le (fault_number known) 2) refl)
  where
    by : (b : Bool) → nat_le (fault_number known) 2 ≡ b → least_fault (least_fault known fault.WrongShape) kind ≡ least_fault known fault.WrongShape
    by true is =
        let first : fault_number known ≤ 2 = grind (arith, nat_tests) in
        let stays : nat_le (fault_number known) (fault_number kind) ≡ true = grind (arith, nat_tests) in
        rw (is, stays) refl
    by false is = let stays : nat_le 2 (fault_number kind) ≡ true = grind (arith, nat_tests) in rw (is, stays) refl

-- no bytes are read as the value that stands in for a missing field, or have a fault of a greater number than that of the shape
pub data Absent {X : Type 0} (read : List ℕ → Result X FaultKind) (other : X) : Type 0 where
  Stands : read [] ≡ Ok other → Absent read other
  Faulty : (kind : FaultKind) → 2 ≤ fault_number kind → read [] ≡ Err kind → Absent read other

pub no_kind : {X : Type 0} {read : List ℕ → Result X FaultKind} {other : X} → read [] ≡ Err fault.NotOfKind → Absent read other
no_kind e = Faulty fault.NotOfKind (omega arith) e

pub no_range : {X : Type 0} {read : List ℕ → Result X FaultKind} {other : X} → read [] ≡ Err fault.OutOfRange → Absent read other
no_range e = Faulty fault.OutOfRange (omega arith) e

-- what a parser of the next field's bytes gives is kept, or the other value and the fault
pub field_is : {X : Type 0} (read : List ℕ → Result X FaultKind) (other value : X) (old new : List (List ℕ)) (known mid after : Option FaultKind) (word : List ℕ)
    → new ≡ drop 1 old → (old ≡ [] → (word ≡ []) × (mid ≡ noted known fault.WrongShape)) → ((field : List ℕ) (rest : List (List ℕ)) → old ≡ field ∷ rest → (word ≡ field) × (mid ≡ known))
    → Absent read other
    → MatchResult (read word) (λ v. (value ≡ v) × (after ≡ mid)) (λ kind. (value ≡ other) × (after ≡ noted mid kind))
    → ◌≡◌ {A = X × FieldsView} (value, record { left = new; fault = after }) (next_read read other old known)
field_is {X} read other value [] new known mid after word left none some (Faulty kind more bad) given =
    let absent = none refl in
    let kept = rw (absent.0, bad) at given in
    rw (left, kept.0, kept.1, absent.1, shape_stays known kind more) refl
field_is {X} read other value [] new known mid after word left none some (Stands empty) given =
    let absent = none refl in
    let kept = rw (absent.0, empty) at given in
    rw (left, kept.0, kept.1, absent.1) refl
field_is {X} read other value (field ∷ rest) new known mid after word left none some absent given =
    let there = some field rest refl in
    by (read field) (subst (λ w. MatchResult (read w) (λ v. (value ≡ v) × (after ≡ mid)) (λ kind. (value ≡ other) × (after ≡ noted mid kind))) there.0 given)
  where
    by : (r : Result X FaultKind) → MatchResult r (λ v. (value ≡ v) × (after ≡ mid)) (λ kind. (value ≡ other) × (after ≡ noted mid kind))
        → ◌≡◌ {A = X × FieldsView} (value, record { left = new; fault = after }) (value_or r other rest known)
    by (Ok v) kept = rw (left, kept.0, kept.1, (some field rest refl).1) refl
    by (Err kind) kept = rw (left, kept.0, kept.1, (some field rest refl).1) refl

-- no bytes are the empty text
pub no_text : (width : ℕ) → text_read width [] ≡ Ok []
no_text width = let fits : nat_le 0 width ≡ true = grind (arith, nat_tests) in rw fits refl

-- the same, where it is known what was parsed
pub given_by : {X : Type 0} (read r : Result X FaultKind) (other value : X) (mid after : Option FaultKind) → r ≡ read
    → MatchResult r (λ v. (value ≡ v) × (after ≡ mid)) (λ kind. (value ≡ other) × (after ≡ noted mid kind))
    → MatchResult read (λ v. (value ≡ v) × (after ≡ mid)) (λ kind. (value ≡ other) × (after ≡ noted mid kind))
given_by {X} read r other value mid after is given = subst (λ q. MatchResult q (λ v. (value ≡ v) × (after ≡ mid)) (λ kind. (value ≡ other) × (after ≡ noted mid kind))) is given

pub by_result : {X : Type 0} (r : Result X FaultKind) (other value : X) (mid after : Option FaultKind) → IfOk r (λ v. (value ≡ v) × (after ≡ mid)) → IfErr r (λ kind. after ≡ noted mid kind) → IfErr r (λ kind. value ≡ other)
    → MatchResult r (λ v. (value ≡ v) × (after ≡ mid)) (λ kind. (value ≡ other) × (after ≡ noted mid kind))
by_result (Ok v) other value mid after ok err stands = ok
by_result (Err kind) other value mid after ok err stands = (stands, err)
