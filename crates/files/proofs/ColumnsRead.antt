-- Fields that are taken as those of columns, some more at a time.
use Rattle.std.proofs.Common.{◌≡◌, ◌≢◌, ℕ, ℤ, pos, List, [], ◌∷◌, ◌++◌, Option, Some, None, refl, sym, ap, ◌∙◌}
use Rattle.rows.specs.declared.records.Credit.{Credit}
use Rattle.rows.specs.declared.records.Credit.TheVariants.{Good}
use Rattle.files.specs.declared.fault.FaultKind.{FaultKind}
use Rattle.files.specs.declared.fault.FaultKind.TheVariants.{WrongShape}
use Rattle.files.specs.declared.fields.Fields.{Fields}
use Rattle.files.specs.FieldRead.{FieldsView, fields_view, field_read, whole_read}
use Rattle.files.specs.KindsRead.{count_read, credit_read, moment_read, money_read, optional_read}
use Rattle.files.specs.Taken.{with_fault}
use Rattle.files.specs.Word.{text_read}
use Rattle.files.specs.Columns.{Column, Whole, Words, Cents, Moment, Credit as CreditColumn, MaybeWhole, MaybeMoment, Count, at_end, take_column, take_columns}

-- the fields were taken so: a record, by which the columns are found
pub record TakesColumns (columns : List Column) (old new : Fields) : Type 0 where
  pub is : fields_view new ≡ take_columns columns (fields_view old)

pub take-append : (columns more : List Column) (t : FieldsView) → take_columns (columns ++ more) t ≡ take_columns more (take_columns columns t)
take-append [] more t = refl
take-append (column ∷ columns) more t = take-append columns more (take_column column t)

pub several : (columns : List Column) (old new : Fields) → fields_view new ≡ take_columns columns (fields_view old) → TakesColumns columns old new
several columns old new is = record { is = is }

pub and_then : {columns more : List Column} {old mid new : Fields} → TakesColumns columns old mid → TakesColumns more mid new → TakesColumns (columns ++ more) old new
and_then {columns} {more} {old} {mid} {new} h g = record { is = g.is ∙ ap (take_columns more) h.is ∙ sym (take-append columns more (fields_view old)) }

pub whole : (low high : ℕ) {value : ℕ} (old new : Fields) → ◌≡◌ {A = ℕ × FieldsView} (value, fields_view new) (field_read (whole_read low high) low (fields_view old)) → TakesColumns (Whole low high ∷ []) old new
whole low high old new is = record { is = ap (λ (p : ℕ × FieldsView). p.1) is }

pub words : (width : ℕ) {value : List ℕ} (old new : Fields) → ◌≡◌ {A = List ℕ × FieldsView} (value, fields_view new) (field_read (text_read width) [] (fields_view old)) → TakesColumns (Words width ∷ []) old new
words width old new is = record { is = ap (λ (p : List ℕ × FieldsView). p.1) is }

pub cents : {value : ℤ} (old new : Fields) → ◌≡◌ {A = ℤ × FieldsView} (value, fields_view new) (field_read money_read (pos 0) (fields_view old)) → TakesColumns (Cents ∷ []) old new
cents old new is = record { is = ap (λ (p : ℤ × FieldsView). p.1) is }

pub moment : {value : ℕ} (old new : Fields) → ◌≡◌ {A = ℕ × FieldsView} (value, fields_view new) (field_read moment_read 0 (fields_view old)) → TakesColumns (Moment ∷ []) old new
moment old new is = record { is = ap (λ (p : ℕ × FieldsView). p.1) is }

pub credit : {value : Credit} (old new : Fields) → ◌≡◌ {A = Credit × FieldsView} (value, fields_view new) (field_read credit_read Good (fields_view old)) → TakesColumns (CreditColumn ∷ []) old new
credit old new is = record { is = ap (λ (p : Credit × FieldsView). p.1) is }

pub maybe_whole : (low high : ℕ) {value : Option ℕ} (old new : Fields) → ◌≡◌ {A = Option ℕ × FieldsView} (value, fields_view new) (field_read (optional_read (whole_read low high)) None (fields_view old)) → TakesColumns (MaybeWhole low high ∷ []) old new
maybe_whole low high old new is = record { is = ap (λ (p : Option ℕ × FieldsView). p.1) is }

pub maybe_moment : {value : Option ℕ} (old new : Fields) → ◌≡◌ {A = Option ℕ × FieldsView} (value, fields_view new) (field_read (optional_read moment_read) None (fields_view old)) → TakesColumns (MaybeMoment ∷ []) old new
maybe_moment old new is = record { is = ap (λ (p : Option ℕ × FieldsView). p.1) is }

pub count : (number expected : ℕ) (old new : Fields) → expected ≡ number → fields_view new ≡ (field_read (count_read expected) expected (fields_view old)).1 → TakesColumns (Count number ∷ []) old new
count number expected old new same is = record { is = is ∙ ap (λ n. (field_read (count_read n) n (fields_view old)).1) same }

-- the fault at the end, where no more fields should be left
pub ended : (left : List (List ℕ)) (old new : Option FaultKind) → (left ≡ [] → new ≡ old) → (left ≢ [] → new ≡ Some (with_fault old WrongShape)) → new ≡ at_end left old
ended [] old new none some = none refl
ended (field ∷ fields) old new none some = some (λ e. cc)
