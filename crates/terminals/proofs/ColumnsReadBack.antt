-- What is spelt in a column is read from it.
use Rattle.std.proofs.Common.{◌≡◌, ◌≤◌, ◌<◌, ◌^◌, ℕ, ℤ, pos, zero, suc, List, [], ◌∷◌, ◌++◌, length, flat_map, true, false, nat_le, Option, Some, None, IfSome, Result, Ok, IsUtf8, refl, sym, ap, subst, ◌∙◌, arith}
use Rattle.std.specs.Fmt.{decimal, signed_decimal}
use Rattle.std.specs.List.{AllByRecursion, AllZip}
use Rattle.std.proofs.lemmas.Bool.Decides.{nat_tests}
use Rattle.std.proofs.lemmas.Fmt.{IsAscii-decimal}
use Rattle.std.proofs.lemmas.List.{append-nil, append_assoc}
use Rattle.std.proofs.lemmas.Str.{IsUtf8-from_ascii}
use Rattle.std.proofs.lemmas.Str.Ascii.{IsAscii-cons}
use Rattle.amounts.specs.Money.{IsMoney}
use Rattle.rows.specs.Text.{IsText}
use Rattle.rows.specs.declared.records.Credit.{Credit}
use Rattle.rows.specs.declared.records.Credit.TheVariants.{Good}
use Rattle.files.specs.declared.fault.FaultKind.{FaultKind}
use Rattle.files.specs.Columns.{Cents, Column, Credit as CreditColumn, MaybeMoment, MaybeWhole, Moment, Spelt, Whole, Words, found, take_column, take_columns, take_word}
use Rattle.files.specs.FieldRead.{FieldsView, value_or, whole_read}
use Rattle.files.specs.KindsRead.{moment_read, optional_read}
use Rattle.files.specs.MomentText.{IsMoment, IsMomentText}
use Rattle.files.specs.Word.{credit_text, text_read}
use Rattle.files.proofs.Ascii.{utf8_text}
use Rattle.files.proofs.ColumnsRead.{take-append}
use Rattle.files.proofs.KindsRead.{credit_complete, moment_complete, money_complete, no_bytes_no_moment, optional_some, whole_complete, word_is}
use Rattle.files.proofs.Numerals.{some_digits}
use Rattle.requests.specs.LastName.{begins_with_hash}
use Rattle.requests.specs.declared.request.Choice.{Choice}
use Rattle.requests.specs.declared.request.Choice.TheVariants.{Number, LastName}
use Rattle.terminals.specs.ChoiceLaws.{IsChoice}
use Rattle.terminals.specs.ChoiceText.{choice_text}
use Rattle.terminals.specs.Nullable.{IsNullableMoment, nullable_text}
use Rattle.terminals.specs.ReadLaws.{IsBetween, IsNamed}
use Rattle.terminals.specs.RecordLaws.{IsWord}
use Rattle.terminals.specs.RequestColumns.{choice, choice_fault, fault_in, number, repeated}

-- no fault is known, and these fields are left
abbrev pub clean : List (List ℕ) → FieldsView
clean left = record { left = left; fault = None }

-- ---- columns

-- a field of that column is read without a fault
pub record IsRead (column : Column) (text : List ℕ) : Type 0 where
  pub is : (rest : List (List ℕ)) → take_column column (clean (text ∷ rest)) ≡ clean rest

-- the same of several
pub record AreRead (columns : List Column) (fields : List (List ℕ)) : Type 0 where
  pub are : (rest : List (List ℕ)) → take_columns columns (clean (fields ++ rest)) ≡ clean rest

pub none_read : AreRead [] []
none_read = record { are = λ rest. refl }

pub and_read : {column : Column} {columns : List Column} {text : List ℕ} {fields : List (List ℕ)} → IsRead column text → AreRead columns fields → AreRead (column ∷ columns) (text ∷ fields)
and_read {column} {columns} {text} {fields} first more = record { are = λ rest. ap (take_columns columns) (first.is (fields ++ rest)) ∙ more.are rest }

pub append_read : {columns more : List Column} {fields others : List (List ℕ)} → AreRead columns fields → AreRead more others → AreRead (columns ++ more) (fields ++ others)
append_read {columns} {more} {fields} {others} one two = record {
  are = λ rest.
      take-append columns more (clean ((fields ++ others) ++ rest))
      ∙ ap (λ l. take_columns more (take_columns columns (clean l))) (append_assoc fields others rest)
      ∙ ap (take_columns more) (one.are (others ++ rest)) ∙ two.are rest;
}

pub word_is_taken : (word : List ℕ) (rest : List (List ℕ)) → IsUtf8 word → ◌≡◌ {A = List ℕ × FieldsView} (take_word (clean (word ∷ rest))) (word, clean rest)
word_is_taken word rest utf8 = ap (λ r. value_or r [] rest None) (word_is word utf8)

pub whole_is_read : (low high n : ℕ) → high < 2 ^ 64 → low ≤ n → n ≤ high → IsRead (Whole low high) (decimal n)
whole_is_read low high n fits least most = record { is = λ rest. ap (λ r. (value_or r low rest None).1) (whole_complete low high n (omega (arith, fits, most)) least most) }

pub number_read : (n : ℕ) → IsWord n → IsRead number (decimal n)
number_read n small = whole_is_read 0 4294967295 n (omega arith) (omega arith) (omega (arith, small))

pub moment_is_read : (text : List ℕ) (seconds : ℕ) → IsMomentText text seconds → IsMoment seconds → IsRead Moment text
moment_is_read text seconds spelt most = record { is = λ rest. ap (λ r. (value_or r 0 rest None).1) (moment_complete text seconds spelt most) }

text_complete : (width : ℕ) (text : List ℕ) → IsText width text → text_read width text ≡ Ok text
text_complete width text t =
    let fits = t.fits in
    let short : nat_le (length text) width ≡ true = grind (arith, nat_tests, fits) in
    rw (t.printable, short) refl

pub text_is_read : (width : ℕ) (text : List ℕ) → IsText width text → IsRead (Words width) text
text_is_read width text t = record { is = λ rest. ap (λ r. (value_or r [] rest None).1) (text_complete width text t) }

pub money_is_read : (z : ℤ) → IsMoney z → IsRead Cents (signed_decimal z)
money_is_read z m = record { is = λ rest. ap (λ r. (value_or r (pos 0) rest None).1) (money_complete z m) }

pub credit_is_read : (credit : Credit) → IsRead CreditColumn (credit_text credit)
credit_is_read credit = record { is = λ rest. ap (λ r. (value_or r Good rest None).1) (credit_complete credit) }

-- a word that is looked at
pub word_fits : (fault : List ℕ → Option FaultKind) (text : List ℕ) → IsUtf8 text → fault text ≡ None → IsRead (Spelt fault) text
word_fits fault text utf8 none = record {
  is = λ rest.
      ap (λ (p : List ℕ × FieldsView). found (fault p.0) p.1) (word_is_taken text rest utf8)
      ∙ ap (λ kind. found kind (clean rest)) none;
}

-- a field that may be empty
optional_is_read : {X : Type 0} (read : List ℕ → Result X FaultKind) (text : List ℕ) (value : X) (rest : List (List ℕ)) → (text ≡ [] → ⊥) → read text ≡ Ok value
    → (value_or (optional_read read text) None rest None).1 ≡ clean rest
optional_is_read read text value rest some e = ap (λ r. (value_or r None rest None).1) (optional_some read text value some e)

pub maybe_whole_is_read : (low high : ℕ) (n : Option ℕ) → high < 2 ^ 64 → IfSome n (IsBetween low high) → IsRead (MaybeWhole low high) (nullable_text n)
maybe_whole_is_read low high None fits between = record { is = λ rest. refl }
maybe_whole_is_read low high (Some n) fits between =
    let small : n < 2 ^ 64 = let most = between.1 in omega (arith, fits, most) in
    record { is = λ rest. optional_is_read (whole_read low high) (decimal n) n rest (some_digits n small) (whole_complete low high n small between.0 between.1) }

pub maybe_moment_is_read : (text : List ℕ) (moment : Option ℕ) → IsNullableMoment text moment → IfSome moment IsMoment → IsRead MaybeMoment text
maybe_moment_is_read text None spelt most = record { is = λ rest. ap (λ t. (take_column MaybeMoment (clean (t ∷ rest)))) spelt }
maybe_moment_is_read text (Some seconds) spelt most =
    let read = moment_complete text seconds spelt most in
    let some : text ≡ [] → ⊥ = λ e. let no = sym no_bytes_no_moment ∙ ap moment_read (sym e) ∙ read in absurd cc in
    record { is = λ rest. optional_is_read moment_read text seconds rest some read }

-- a name that doesn't begin with `#`
name_fits : (last : List ℕ) → begins_with_hash last ≡ false → text_read 16 last ≡ Ok last → choice_fault last ≡ None
name_fits [] plain fits = refl
name_fits (first ∷ rest) plain fits = rw (plain, fits) refl

pub choice_is_read : (c : Choice) → IsChoice c → IsNamed c → IsRead choice (choice_text c)
choice_is_read (Number n) small named =
    let text : List ℕ = 35 ∷ decimal n in
    let utf8 : IsUtf8 text = IsUtf8-from_ascii text (IsAscii-cons 35 (decimal n) (omega arith) (IsAscii-decimal n (omega (arith, small)))) in
    word_fits choice_fault text utf8 (ap fault_in (whole_complete 0 4294967295 n (omega (arith, small)) (omega arith) (omega (arith, small))))
choice_is_read (LastName last) plain named =
    word_fits choice_fault last (utf8_text 16 last named) (name_fits last plain (text_complete 16 last named))

-- ---- several of one kind

-- the same columns before the others are the same ones behind them
turn : (times : ℕ) (columns : List Column) → columns ++ repeated times columns ≡ repeated (suc times) columns
turn zero columns = append-nil columns
turn (suc times) columns = sym (append_assoc columns (repeated times columns) columns) ∙ ap (λ l. l ++ columns) (turn times columns)

pub each_is_read : {X : Type 0} (columns : List Column) (fields : X → List (List ℕ)) (Can : X → Type 0) → ((x : X) → Can x → AreRead columns (fields x)) → (xs : List X) → AllByRecursion Can xs
    → AreRead (repeated (length xs) columns) (flat_map fields xs)
each_is_read columns fields Can one [] all = none_read
each_is_read columns fields Can one (x ∷ xs) all =
    subst (λ more. AreRead more (flat_map fields (x ∷ xs))) (turn (length xs) columns) (append_read (one x all.0) (each_is_read columns fields Can one xs all.1))

pub each_of_two_is_read : {X : Type 0} (columns : List Column) (Is : X → List (List ℕ) → Type 0) (Can : X → Type 0) → ((x : X) → Can x → (fields : List (List ℕ)) → Is x fields → AreRead columns fields)
    → (xs : List X) (each : List (List (List ℕ))) → AllByRecursion Can xs → AllZip Is xs each → AreRead (repeated (length xs) columns) (flat_map (λ fields. fields) each)
each_of_two_is_read columns Is Can one [] [] all are = none_read
each_of_two_is_read columns Is Can one [] (fields ∷ each) all are = absurd are
each_of_two_is_read columns Is Can one (x ∷ xs) [] all are = absurd are
each_of_two_is_read columns Is Can one (x ∷ xs) (fields ∷ each) all are =
    subst (λ more. AreRead more (fields ++ flat_map (λ fields. fields) each)) (turn (length xs) columns) (append_read (one x all.0 fields are.0) (each_of_two_is_read columns Is Can one xs each all.1 are.1))
