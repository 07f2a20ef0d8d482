-- A record of a dataset has far fewer bytes than a record may have.
use Rattle.std.proofs.Common.{◌≡◌, ◌≤◌, ◌<◌, ◌+◌, ◌*◌, ◌^◌, ℕ, zero, suc, List, [], ◌∷◌, length, nat_le, Bool, true, Some, None, refl, arith}
use Rattle.std.specs.Fmt.{decimal}
use Rattle.std.specs.List.{list_all}
use Rattle.std.proofs.lemmas.Bool.Decides.{nat_tests}
use Rattle.std.proofs.lemmas.Fmt.{length-decimal-le, length_signed_le}
use Rattle.std.proofs.lemmas.List.Sums.{sum_by-append}
use Rattle.std.proofs.lemmas.Bool.{and_parts}
use Rattle.rows.specs.declared.records.Credit.{Credit as CreditKind}
use Rattle.rows.specs.declared.records.Credit.TheVariants.{Good, Bad}
use Rattle.files.specs.Columns.{Column, Whole, Words as Texts, Cents, Moment, Credit, MaybeWhole, MaybeMoment, Count, Spelt}
use Rattle.files.specs.MomentText.{IsMomentText}
use Rattle.files.specs.Span.{record_size}
use Rattle.files.specs.Word.{credit_text}
use Rattle.files.proofs.Ascii.{small_money}
use Rattle.files.proofs.Moments.{length_moment}
use Rattle.dataset.specs.Records.{IsSpelt, AreSpelt}
use Rattle.files.specs.Columns.{Value, Values}
use Rattle.dataset.proofs.ColumnFields.{AreIn, AreSmall, IsIn, IsSmall, field_of, fields_of}

-- a column of texts that are no longer than that
unfoldable pub is_narrow : ℕ → Column → Bool
is_narrow most (Texts width) = nat_le width most
is_narrow most column = true

pub short_number : (n : ℕ) (text : List ℕ) → n < 2 ^ 64 → text ≡ decimal n → length text ≤ 32
short_number n text small spelt = rw spelt (let long = length-decimal-le 20 n (omega arith) (omega arith) small in omega (arith, long))

short_moment : (seconds : ℕ) (text : List ℕ) → IsMomentText text seconds → length text ≤ 32
short_moment seconds text spelt = let long = length_moment text seconds spelt in omega (arith, long)

short_credit : (credit : CreditKind) (text : List ℕ) → text ≡ credit_text credit → length text ≤ 32
short_credit Good text spelt = rw spelt (omega arith)
short_credit Bad text spelt = rw spelt (omega arith)

-- the size of a record with so many fields, each of that many bytes
unfoldable pub bytes_of : ℕ → ℕ → ℕ
bytes_of most zero = 0
bytes_of most (suc n) = bytes_of most n + (most + 1)

pub bytes_of_32 : (n : ℕ) → bytes_of 32 n ≡ 33 * n
unfolding bytes_of
bytes_of_32 zero = refl
bytes_of_32 (suc n) = let rest = bytes_of_32 n in omega (arith, rest)

pub bytes_of_500 : (n : ℕ) → bytes_of 500 n ≡ 501 * n
unfolding bytes_of
bytes_of_500 zero = refl
bytes_of_500 (suc n) = let rest = bytes_of_500 n in omega (arith, rest)

-- columns whose fields have no more bytes than that, which is at least 32
module _ (most : ℕ) (some : 32 ≤ most) where
  short_field : (column : Column) (value : Value column) (text : List ℕ) → IsSmall column → is_narrow most column ≡ true → IsIn column value → IsSpelt (field_of column value) text → length text ≤ most
  unfolding is_narrow
  short_field (Whole low high) n text small narrow from spelt = let short = short_number n text (let high_is = from.1 in omega (arith, high_is, small)) spelt in omega (arith, short, some)
  short_field (Texts width) words text small narrow text_fits spelt =
      let fits = text_fits.fits in
      let wide : width ≤ most = grind (arith, nat_tests, narrow) in
      rw spelt (omega (arith, fits, wide))
  short_field Cents cents text small narrow money spelt = rw spelt (let few = small_money cents money in let long = length_signed_le 20 cents (omega (arith, few)) few in omega (arith, long, some))
  short_field Moment seconds text small narrow is_moment spelt = let short = short_moment seconds text spelt in omega (arith, short, some)
  short_field Credit credit text small narrow from spelt = let short = short_credit credit text spelt in omega (arith, short, some)
  short_field (MaybeWhole low high) None text small narrow from spelt = rw spelt (omega arith)
  short_field (MaybeWhole low high) (Some n) text small narrow from spelt = let short = short_number n text (let high_is = from.1 in omega (arith, high_is, small)) spelt in omega (arith, short, some)
  short_field MaybeMoment None text small narrow from spelt = rw spelt (omega arith)
  short_field MaybeMoment (Some seconds) text small narrow from spelt = let short = short_moment seconds text spelt in omega (arith, short, some)
  short_field (Count count) n text small narrow from spelt = absurd small
  short_field (Spelt fault) words text small narrow from spelt = absurd small

  -- one field more
  pub longer : (text : List ℕ) (texts : List (List ℕ)) (count : ℕ) → length text ≤ most → record_size texts ≤ bytes_of most count → record_size (text ∷ texts) ≤ bytes_of most (suc count)
  unfolding bytes_of
  longer text texts count first rest =
      let parts = sum_by-append (λ (t : List ℕ). length t + 1) (text ∷ []) texts in
      omega (arith, first, rest, parts)

  pub short_fields : (columns : List Column) (values : Values columns) (texts : List (List ℕ)) → AreSmall columns → list_all (is_narrow most) columns ≡ true → AreIn columns values → AreSpelt (fields_of columns values) texts
      → record_size texts ≤ bytes_of most (length columns)
  unfolding bytes_of
  short_fields [] values [] small narrow inside spelt = omega arith
  short_fields [] values (text ∷ texts) small narrow inside spelt = absurd spelt
  short_fields (column ∷ columns) values [] small narrow inside spelt = absurd spelt
  short_fields (column ∷ columns) values (text ∷ texts) small narrow inside spelt =
      let tests = and_parts (is_narrow most column) (list_all (is_narrow most) columns) narrow in
      longer text texts (length columns) (short_field column values.0 text small.0 tests.0 inside.0 spelt.0) (short_fields columns values.1 texts small.1 tests.1 inside.1 spelt.1)
