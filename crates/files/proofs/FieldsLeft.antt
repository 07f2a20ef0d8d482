-- The fields that are left: the next one, and those after a field or after columns.
use Rattle.std.proofs.Common.{◌≡◌, ℕ, pos, zero, suc, ◌+◌, ◌-◌, List, [], ◌∷◌, drop, length, Option, Some, None, Result, Ok, Err, refl, ap, ◌∙◌, arith}
use Rattle.std.proofs.lemmas.List.{drop-drop, drop_all, length-drop}
use Rattle.rows.specs.declared.records.Credit.TheVariants.{Good}
use Rattle.files.specs.declared.fault.FaultKind.{FaultKind}
use Rattle.files.specs.declared.fields.Fields.{Fields}
use Rattle.files.specs.Columns.{Column, Whole, Words, Cents, Moment, Credit, MaybeWhole, MaybeMoment, Count, Spelt, found, take_column, take_columns, take_word}
use Rattle.files.specs.FieldRead.{FieldsView, field_read, fields_view, next_read, value_or, whole_read}
use Rattle.files.specs.KindsRead.{count_read, credit_read, moment_read, money_read, optional_read, word_read}
use Rattle.files.specs.Taken.{fields_left}
use Rattle.files.specs.Word.{text_read}

pub drop-next : {X : Type 0} (n : ℕ) (xs : List X) → drop (n + 1) xs ≡ drop 1 (drop n xs)
drop-next zero [] = refl
drop-next zero (x ∷ xs) = refl
drop-next (suc n) [] = drop_all (suc n + 1) [] (omega arith)
drop-next (suc n) (x ∷ xs) = let after : suc n + 1 ≡ suc (n + 1) = omega arith in rw after (drop-next n xs)

-- ---- what a field or columns leave

value_left : {X : Type 0} (read : Result X FaultKind) (other : X) (rest : List (List ℕ)) (known : Option FaultKind) → (value_or read other rest known).1.left ≡ rest
value_left (Ok value) other rest known = refl
value_left (Err kind) other rest known = refl

pub next_left : {X : Type 0} (read : List ℕ → Result X FaultKind) (other : X) (left : List (List ℕ)) (known : Option FaultKind) → (next_read read other left known).1.left ≡ drop 1 left
next_left read other [] known = refl
next_left read other (field ∷ rest) known = value_left (read field) other rest known

-- a field that was read is gone
pub field_long : {X : Type 0} (read : List ℕ → Result X FaultKind) (other value : X) (old new : Fields) → ◌≡◌ {A = X × FieldsView} (value, fields_view new) (field_read read other (fields_view old))
    → length (fields_left new) ≡ length (fields_left old) - 1
field_long {X} read other value old new is =
    ap (λ (p : X × FieldsView). length p.1.left) is ∙ ap length (next_left read other (fields_left old) old.fault) ∙ length-drop 1 (fields_left old)

found_left : (kind : Option FaultKind) (t : FieldsView) → (found kind t).left ≡ t.left
found_left None t = refl
found_left (Some kind) t = refl

column_left : (column : Column) (t : FieldsView) → (take_column column t).left ≡ drop 1 t.left
column_left (Whole low high) t = next_left (whole_read low high) low t.left t.fault
column_left (Words width) t = next_left (text_read width) [] t.left t.fault
column_left Cents t = next_left money_read (pos 0) t.left t.fault
column_left Moment t = next_left moment_read 0 t.left t.fault
column_left Credit t = next_left credit_read Good t.left t.fault
column_left (MaybeWhole low high) t = next_left (optional_read (whole_read low high)) None t.left t.fault
column_left MaybeMoment t = next_left (optional_read moment_read) None t.left t.fault
column_left (Count count) t = next_left (count_read count) count t.left t.fault
column_left (Spelt fault) t = found_left (fault (take_word t).0) (take_word t).1 ∙ next_left word_read [] t.left t.fault

-- as many fields as columns are gone
pub columns_left : (columns : List Column) (t : FieldsView) → (take_columns columns t).left ≡ drop (length columns) t.left
columns_left [] t = refl
columns_left (column ∷ columns) t =
    columns_left columns (take_column column t) ∙ ap (drop (length columns)) (column_left column t) ∙ drop-drop (length columns) 1 t.left ∙ ap (λ n. drop n t.left) (let n : 1 + length columns ≡ suc (length columns) = omega arith in n)

-- so many fields fewer are left
pub columns_long : (columns : List Column) (t : FieldsView) → length (take_columns columns t).left ≡ length t.left - length columns
columns_long [] t = omega arith
columns_long (column ∷ columns) t =
    let one : length (take_column column t).left ≡ length t.left - 1 = ap length (column_left column t) ∙ length-drop 1 t.left in
    let rest = columns_long columns (take_column column t) in
    omega (arith, one, rest)
