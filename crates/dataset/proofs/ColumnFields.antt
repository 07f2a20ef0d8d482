-- What a column's field is spelt as, read; and what is read, spelt.
use Rattle.std.proofs.Common.{◌≡◌, ◌≤◌, ◌<◌, ◌^◌, ℕ, List, [], ◌∷◌, length, nat_le, not, Bool, true, false, Option, Some, None, Ok, IfSome, refl, sym, ap, subst, ◌∙◌, arith}
use Rattle.std.specs.Prelude.{pos}
use Rattle.std.specs.Fmt.{decimal}
use Rattle.std.specs.Str.Parse.{digits_value}
use Rattle.std.specs.List.{list_all}
use Rattle.std.proofs.lemmas.Bool.Decides.{nat_tests}
use Rattle.std.proofs.lemmas.Bool.{and_parts}
use Rattle.amounts.specs.Money.{IsMoney}
use Rattle.rows.specs.Text.{IsText, is_printable_byte}
use Rattle.files.specs.declared.fault.FaultKind.{FaultKind}
use Rattle.files.specs.Columns.{Column, Whole, Words as Texts, Cents, Moment, Credit, MaybeWhole, MaybeMoment, Count, Spelt}
use Rattle.rows.specs.declared.records.Credit.TheVariants.{Good}
use Rattle.files.specs.FieldRead.{FieldsView, is_negative, is_within, value_or, whole_read}
use Rattle.files.specs.KindsRead.{moment_read, optional_read}
use Rattle.files.specs.MomentText.{IsMoment, IsMomentText}
use Rattle.files.specs.Number.{is_number}
use Rattle.files.specs.Word.{credit_text, text_read}
use Rattle.files.proofs.KindsRead.{credit_complete, credit_sound, moment_complete, money_complete, money_sound, optional_is, optional_some, whole_complete, whole_sound}
use Rattle.files.proofs.Moments.{some_moment_text}
use Rattle.files.proofs.Numerals.{some_digits}
use Rattle.files.proofs.Ascii.{text_is_read}
use Rattle.dataset.specs.Ranges.{IsFrom}
use Rattle.dataset.specs.Records.{Field, Words, Number, Money, Date, IsSpelt, AreSpelt, carrier_field, delivery_field}
use Rattle.files.specs.Columns.{Value, Values, column_read, read_column, read_columns}
use Rattle.files.proofs.MomentSound.{moment_sound}
use Rattle.files.proofs.ColumnValues.{AreRead, behind}

-- the field of a column that has this value
abbrev pub field_of : (column : Column) → Value column → Field
field_of (Whole low high) n = Number n
field_of (Texts width) words = Words words
field_of Cents cents = Money cents
field_of Moment seconds = Date seconds
field_of Credit credit = Words (credit_text credit)
field_of (MaybeWhole low high) number = carrier_field number
field_of MaybeMoment moment = delivery_field moment
field_of (Count count) n = Number n
field_of (Spelt fault) words = Words words

abbrev pub fields_of : (columns : List Column) → Values columns → List Field
fields_of [] values = []
fields_of (column ∷ columns) values = field_of column values.0 ∷ fields_of columns values.1

-- std prints a number whole below 2^64; of counts and words nothing is said here
abbrev pub IsSmall : Column → Type 0
IsSmall (Whole low high) = high < 2 ^ 64
IsSmall (MaybeWhole low high) = high < 2 ^ 64
IsSmall (Count count) = ⊥
IsSmall (Spelt fault) = ⊥
IsSmall column = Unit {0}

abbrev pub AreSmall : List Column → Type 0
AreSmall [] = Unit {0}
AreSmall (column ∷ columns) = IsSmall column × AreSmall columns

-- the value is within the column
abbrev pub IsIn : (column : Column) → Value column → Type 0
IsIn (Whole low high) n = IsFrom low high n
IsIn (Texts width) words = IsText width words
IsIn Cents cents = IsMoney cents
IsIn Moment seconds = IsMoment seconds
IsIn Credit credit = Unit {0}
IsIn (MaybeWhole low high) number = IfSome number (IsFrom low high)
IsIn MaybeMoment moment = IfSome moment IsMoment
IsIn (Count count) n = ⊥
IsIn (Spelt fault) words = ⊥

abbrev pub AreIn : (columns : List Column) → Values columns → Type 0
AreIn [] values = Unit {0}
AreIn (column ∷ columns) values = IsIn column values.0 × AreIn columns values.1

-- ---- what is read is spelt so

text_sound : (width : ℕ) (text words : List ℕ) → text_read width text ≡ Ok words → text ≡ words
text_sound width text words e = by (list_all is_printable_byte text) refl (nat_le (length text) width) refl
  where
    by : (p : Bool) → list_all is_printable_byte text ≡ p → (n : Bool) → nat_le (length text) width ≡ n → text ≡ words
    by false printable n narrow = let no = rw printable at e in absurd cc
    by true printable false narrow = let no = rw (printable, narrow) at e in absurd cc
    by true printable true narrow = let same = rw (printable, narrow) at e in cc

read_is_spelt : (column : Column) (value : Value column) (text : List ℕ) → IsSmall column → column_read column text ≡ Ok value → IsSpelt (field_of column value) text
read_is_spelt (Whole low high) n text small e = sym (whole_sound low high text n small e)
read_is_spelt (Texts width) words text small e = text_sound width text words e
read_is_spelt Cents cents text small e = sym (money_sound text cents e)
read_is_spelt Moment seconds text small e = moment_sound text seconds e
read_is_spelt Credit credit text small e = sym (credit_sound text credit e)
read_is_spelt (MaybeWhole low high) None text small e = optional_is (whole_read low high) text None e
read_is_spelt (MaybeWhole low high) (Some n) text small e = sym (whole_sound low high text n small (optional_is (whole_read low high) text (Some n) e))
read_is_spelt MaybeMoment None text small e = optional_is moment_read text None e
read_is_spelt MaybeMoment (Some seconds) text small e = moment_sound text seconds (optional_is moment_read text (Some seconds) e)
read_is_spelt (Count count) n text small e = absurd small
read_is_spelt (Spelt fault) words text small e = absurd small

pub read_are_spelt : (columns : List Column) (values : Values columns) (texts : List (List ℕ)) → AreSmall columns → AreRead columns values texts → AreSpelt (fields_of columns values) texts
unfolding AreRead
read_are_spelt [] values [] small read = tt
read_are_spelt [] values (text ∷ texts) small read = absurd read
read_are_spelt (column ∷ columns) values [] small read = absurd read
read_are_spelt (column ∷ columns) values (text ∷ texts) small read =
    (read_is_spelt column values.0 text small.0 read.0, read_are_spelt columns values.1 texts small.1 read.1)

-- ---- what is spelt so is read

whole_from : (low high n : ℕ) (text : List ℕ) → high < 2 ^ 64 → IsFrom low high n → text ≡ decimal n → whole_read low high text ≡ Ok n
whole_from low high n text small from e = ap (whole_read low high) e ∙ whole_complete low high n (let most = from.1 in omega (arith, most, small)) from.0 from.1

digits_are_some : (n : ℕ) (text : List ℕ) → n < 2 ^ 64 → text ≡ decimal n → text ≡ [] → ⊥
digits_are_some n text small e none = some_digits n small (sym e ∙ none)

moment_is_some : (seconds : ℕ) (text : List ℕ) → IsMomentText text seconds → text ≡ [] → ⊥
moment_is_some seconds text spelt none = some_moment_text seconds (subst (λ t. IsMomentText t seconds) none spelt)

spelt_is_read : (column : Column) (value : Value column) (text : List ℕ) → IsSmall column → IsIn column value → IsSpelt (field_of column value) text → column_read column text ≡ Ok value
spelt_is_read (Whole low high) n text small from e = whole_from low high n text small from e
spelt_is_read (Texts width) words text small fits e = ap (text_read width) e ∙ text_is_read width words fits
spelt_is_read Cents cents text small money e = ap (column_read Cents) e ∙ money_complete cents money
spelt_is_read Moment seconds text small most e = moment_complete text seconds e most
spelt_is_read Credit credit text small _ e = ap (column_read Credit) e ∙ credit_complete credit
spelt_is_read (MaybeWhole low high) None text small _ e = ap (optional_read (whole_read low high)) e
spelt_is_read (MaybeWhole low high) (Some n) text small from e =
    optional_some (whole_read low high) text n (digits_are_some n text (let most = from.1 in omega (arith, most, small)) e) (whole_from low high n text small from e)
spelt_is_read MaybeMoment None text small _ e = ap (optional_read moment_read) e
spelt_is_read MaybeMoment (Some seconds) text small most e = optional_some moment_read text seconds (moment_is_some seconds text e) (moment_complete text seconds e most)
spelt_is_read (Count count) n text small _ e = absurd small
spelt_is_read (Spelt fault) words text small _ e = absurd small

-- a field that is read without a fault
one_read : (column : Column) (value : Value column) (text : List ℕ) (rest : List (List ℕ)) (known : Option FaultKind) → IsSmall column → column_read column text ≡ Ok value
    → ◌≡◌ {A = Value column × FieldsView} (read_column column (record { left = text ∷ rest; fault = known })) (value, record { left = rest; fault = known })
one_read (Whole low high) value text rest known small e = ap (λ r. value_or r low rest known) e
one_read (Texts width) value text rest known small e = ap (λ r. value_or r [] rest known) e
one_read Cents value text rest known small e = ap (λ r. value_or r (pos 0) rest known) e
one_read Moment value text rest known small e = ap (λ r. value_or r 0 rest known) e
one_read Credit value text rest known small e = ap (λ r. value_or r Good rest known) e
one_read (MaybeWhole low high) value text rest known small e = ap (λ r. value_or r None rest known) e
one_read MaybeMoment value text rest known small e = ap (λ r. value_or r None rest known) e
one_read (Count count) value text rest known small e = absurd small
one_read (Spelt fault) value text rest known small e = absurd small

pub spelt_are_read : (columns : List Column) (values : Values columns) (texts : List (List ℕ)) → AreSmall columns → AreIn columns values → AreSpelt (fields_of columns values) texts
    → ◌≡◌ {A = Values columns × FieldsView} (read_columns columns (record { left = texts; fault = None })) (values, record { left = []; fault = None })
spelt_are_read [] values [] small inside spelt = refl
spelt_are_read [] values (text ∷ texts) small inside spelt = absurd spelt
spelt_are_read (column ∷ columns) values [] small inside spelt = absurd spelt
spelt_are_read (column ∷ columns) values (text ∷ texts) small inside spelt =
    let first = one_read column values.0 text texts None small.0 (spelt_is_read column values.0 text small.0 inside.0 spelt.0) in
    let rest = spelt_are_read columns values.1 texts small.1 inside.1 spelt.1 in
    ap (λ (p : Value column × FieldsView). behind column columns p.0 (read_columns columns p.1)) first ∙ ap (behind column columns values.0) rest

-- ---- what is read is within its column

-- of a number, that it is from the least to the greatest one
abbrev pub IsBetween : (column : Column) → Value column → Type 0
IsBetween (Whole low high) n = IsFrom low high n
IsBetween column value = Unit {0}

abbrev pub AreBetween : (columns : List Column) → Values columns → Type 0
AreBetween [] values = Unit {0}
AreBetween (column ∷ columns) values = IsBetween column values.0 × AreBetween columns values.1

whole_between : (low high n : ℕ) (text : List ℕ) → whole_read low high text ≡ Ok n → IsFrom low high n
whole_between low high n text e = by (is_number text) refl (is_within low high text) refl
  where
    by : (b : Bool) → is_number text ≡ b → (w : Bool) → is_within low high text ≡ w → IsFrom low high n
    by false number w is = let no = rw number at e in absurd cc
    by true number false is = let no = rw (number, is) at e in absurd cc
    by true number true is =
        let value : digits_value 10 text ≡ n = let v = rw (number, is) at e in cc in
        let ends = and_parts (nat_le low (digits_value 10 text)) (nat_le (digits_value 10 text) high) (and_parts (not (is_negative text)) _ is).1 in
        let least : low ≤ digits_value 10 text = let l = ends.0 in grind (arith, nat_tests, l) in
        let most : digits_value 10 text ≤ high = let m = ends.1 in grind (arith, nat_tests, m) in
        (omega (arith, least, value), omega (arith, most, value))

read_is_between : (column : Column) (value : Value column) (text : List ℕ) → column_read column text ≡ Ok value → IsBetween column value
read_is_between (Whole low high) n text e = whole_between low high n text e
read_is_between column value text e = tt

pub read_are_between : (columns : List Column) (values : Values columns) (texts : List (List ℕ)) → AreRead columns values texts → AreBetween columns values
unfolding AreRead
read_are_between [] values texts read = tt
read_are_between (column ∷ columns) values [] read = absurd read
read_are_between (column ∷ columns) values (text ∷ texts) read = (read_is_between column values.0 text read.0, read_are_between columns values.1 texts read.1)
