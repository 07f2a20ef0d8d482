-- Words that are taken and looked at, and columns that are taken again and again.
use Rattle.std.proofs.Common.{◌≡◌, ℕ, zero, suc, ◌+◌, ◌*◌, List, length, Option, Some, refl, sym, ap, ◌∙◌, arith}
use Rattle.std.proofs.lemmas.List.{length-append}
use Rattle.files.specs.declared.fault.FaultKind.{FaultKind}
use Rattle.files.specs.declared.fields.Fields.{Fields}
use Rattle.files.specs.Columns.{Column, Spelt, found, take_column, take_columns, take_word}
use Rattle.files.specs.FieldRead.{FieldsView, fields_view}
use Rattle.files.specs.Taken.{fault_of, fields_left, with_fault}
use Rattle.files.proofs.ColumnsRead.{take-append}
use Rattle.terminals.specs.RequestColumns.{line_columns, repeated}

-- a fault that is noted
pub noted_is : (kind : FaultKind) (old new : Fields) → fault_of new ≡ Some (with_fault (fault_of old) kind) → fields_left new ≡ fields_left old → fields_view new ≡ found (Some kind) (fields_view old)
noted_is kind old new fault left = λ i. record { left = left i; fault = fault i }

-- a word that is taken and looked at
pub spelt_is : (fault : List ℕ → Option FaultKind) (word : List ℕ) (reported : Option FaultKind) (old mid new : Fields)
    → ◌≡◌ {A = List ℕ × FieldsView} (word, fields_view mid) (take_word (fields_view old)) → reported ≡ fault word → fields_view new ≡ found reported (fields_view mid)
    → fields_view new ≡ take_column (Spelt fault) (fields_view old)
spelt_is fault word reported old mid new field is new_is =
    new_is ∙ ap (λ k. found k (fields_view mid)) is ∙ ap (λ (p : List ℕ × FieldsView). found (fault p.0) p.1) field

-- the same columns once more
pub once_more : (times : ℕ) (columns : List Column) (t u v : FieldsView) → u ≡ take_columns (repeated times columns) t → v ≡ take_columns columns u
    → v ≡ take_columns (repeated (times + 1) columns) t
once_more times columns t u v before next =
    next ∙ ap (take_columns columns) before ∙ sym (take-append (repeated times columns) columns t)
    ∙ ap (λ n. take_columns (repeated n columns) t) (let more : suc times ≡ times + 1 = omega arith in more)

pub lines_long : (times : ℕ) → length (repeated times line_columns) ≡ 3 * times
lines_long zero = refl
lines_long (suc times) =
    let rest = lines_long times in
    let more = length-append (repeated times line_columns) line_columns in
    omega (arith, rest, more)
