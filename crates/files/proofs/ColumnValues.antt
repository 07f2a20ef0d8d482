-- Columns that are read one after another.
use Rattle.std.proofs.Common.{◌≡◌, ℕ, List, [], ◌∷◌, ◌++◌, Option, Some, None, Ok, refl, sym, ap, ◌∙◌}
use Rattle.std.specs.Prelude.{pos}
use Rattle.rows.specs.declared.records.Credit.TheVariants.{Good}
use Rattle.files.specs.declared.fault.FaultKind.{FaultKind}
use Rattle.files.specs.declared.fields.Fields.{Fields}
use Rattle.files.specs.Columns.{Column, Whole, Words, Cents, Moment, Credit, MaybeWhole, MaybeMoment, Count, Spelt, Reads, Value, Values, column_read, found, read_column, read_columns, take_columns, take_word}
use Rattle.files.specs.FieldRead.{FieldsView, fields_view, whole_read}
use Rattle.files.specs.KindsRead.{count_read, credit_read, moment_read, money_read, optional_read, word_read}
use Rattle.files.specs.Word.{text_read}
use Rattle.files.proofs.KindsRead.{TookField, took_next}

-- the fields were read so: a record, by which the columns and the values of their fields are found
pub record ReadsColumns (columns : List Column) (values : Values columns) (t u : FieldsView) : Type 0 where
  pub is : ◌≡◌ {A = Values columns × FieldsView} (values, u) (read_columns columns t)

-- no column more
pub read_none : {t : FieldsView} → ReadsColumns [] tt t t
read_none = record { is = refl }

-- the values of one field and of those after it
abbrev pub behind : (column : Column) (columns : List Column) → Value column → Values columns × FieldsView → Values (column ∷ columns) × FieldsView
behind column columns value rest = ((value, rest.0), rest.1)

-- a column, and then more
pub read_then : (column : Column) {columns : List Column} {value : Value column} {values : Values columns} {t u v : FieldsView}
    → ◌≡◌ {A = Value column × FieldsView} (value, u) (read_column column t) → ReadsColumns columns values u v → ReadsColumns (column ∷ columns) (value, values) t v
read_then column {columns} {value} {values} {t} {u} {v} first rest = record {
  is = ap (behind column columns value) rest.is ∙ ap (λ (p : Value column × FieldsView). behind column columns p.0 (read_columns columns p.1)) first;
}

-- ---- columns of which some were read in one go

abbrev pub join : (columns more : List Column) → Values columns → Values more → Values (columns ++ more)
join [] more values others = others
join (column ∷ columns) more values others = (values.0, join columns more values.1 others)

abbrev joined : (columns more : List Column) → Values columns × FieldsView → Values more × FieldsView → Values (columns ++ more) × FieldsView
joined columns more first rest = (join columns more first.0 rest.0, rest.1)

pub read-append : (columns more : List Column) (t : FieldsView) → read_columns (columns ++ more) t ≡ joined columns more (read_columns columns t) (read_columns more (read_columns columns t).1)
read-append [] more t = refl
read-append (column ∷ columns) more t =
    let first = read_column column t in
    ap (behind column (columns ++ more) first.0) (read-append columns more first.1)

pub read_more : (columns : List Column) {more : List Column} {values : Values columns} {others : Values more} {t u v : FieldsView}
    → ReadsColumns columns values t u → ReadsColumns more others u v → ReadsColumns (columns ++ more) (join columns more values others) t v
read_more columns {more} {values} {others} {t} {u} {v} first rest = record {
  is = ap (joined columns more (values, u)) rest.is
      ∙ ap (λ (q : Values columns × FieldsView). joined columns more q (read_columns more q.1)) first.is
      ∙ sym (read-append columns more t);
}

module _ {X : Type 0} {columns : List Column} {form : Values columns → X} {result : X} {old new : Fields} where
  -- columns of which something was made
  pub of_reads : Reads columns form result old new → ReadsColumns columns (read_columns columns (fields_view old)).0 (fields_view old) (fields_view new)
  of_reads h = record { is = λ i. ((read_columns columns (fields_view old)).0, h.after i) }

-- what was made of the columns
pub read_as : {X : Type 0} (columns : List Column) (form : Values columns → X) (result : X) {values : Values columns} {old new : Fields}
    → ReadsColumns columns values (fields_view old) (fields_view new) → result ≡ form values → Reads columns form result old new
read_as columns form result h e = record {
  value = e ∙ ap (λ (q : Values columns × FieldsView). form q.0) h.is;
  after = ap (λ (q : Values columns × FieldsView). q.1) h.is;
}

-- ---- what is known where no fault is

-- columns that are read are columns that are taken
pub read-take : (columns : List Column) (t : FieldsView) → (read_columns columns t).1 ≡ take_columns columns t
read-take [] t = refl
read-take (column ∷ columns) t = read-take columns (read_column column t).1

found_none : (kind : Option FaultKind) (t : FieldsView) → (found kind t).fault ≡ None → (t.fault ≡ None) × ((found kind t).left ≡ t.left)
found_none None t none = (none, refl)
found_none (Some kind) t none = absurd cc

clean_one : (column : Column) (t : FieldsView) → (read_column column t).1.fault ≡ None → TookField (column_read column) (read_column column t).0 t.left (read_column column t).1.left t.fault
clean_one (Whole low high) t none = took_next (whole_read low high) low _ t.left _ t.fault _ refl none
clean_one (Words width) t none = took_next (text_read width) [] _ t.left _ t.fault _ refl none
clean_one Cents t none = took_next money_read (pos 0) _ t.left _ t.fault _ refl none
clean_one Moment t none = took_next moment_read 0 _ t.left _ t.fault _ refl none
clean_one Credit t none = took_next credit_read Good _ t.left _ t.fault _ refl none
clean_one (MaybeWhole low high) t none = took_next (optional_read (whole_read low high)) None _ t.left _ t.fault _ refl none
clean_one MaybeMoment t none = took_next (optional_read moment_read) None _ t.left _ t.fault _ refl none
clean_one (Count count) t none = took_next (count_read count) count _ t.left _ t.fault _ refl none
clean_one (Spelt fault) t none =
    let kept = found_none (fault (take_word t).0) (take_word t).1 none in
    let read = took_next word_read [] _ t.left _ t.fault _ refl kept.0 in
    record { faultless = read.faultless; text = read.text; is_read = read.is_read; left = read.left ∙ ap (λ l. read.text ∷ l) (sym kept.1) }

-- each text is read as its column's value
unfoldable pub AreRead : (columns : List Column) → Values columns → List (List ℕ) → Type 0
AreRead [] values [] = Unit {0}
AreRead [] values (text ∷ texts) = ⊥
AreRead (column ∷ columns) values [] = ⊥
AreRead (column ∷ columns) values (text ∷ texts) = (column_read column text ≡ Ok values.0) × AreRead columns values.1 texts

-- columns that were read without a fault, and the texts that were read
pub record Clean (columns : List Column) (t : FieldsView) : Type 0 where
  pub faultless : t.fault ≡ None
  pub texts : List (List ℕ)
  pub are_read : AreRead columns (read_columns columns t).0 texts
  pub are : t.left ≡ texts ++ (read_columns columns t).1.left

pub clean : (columns : List Column) (t : FieldsView) → (read_columns columns t).1.fault ≡ None → Clean columns t
unfolding AreRead
clean [] t none = record { faultless = none; texts = []; are_read = tt; are = refl }
clean (column ∷ columns) t none =
    let rest = clean columns (read_column column t).1 none in
    let first = clean_one column t rest.faultless in
    record { faultless = first.faultless; texts = first.text ∷ rest.texts; are_read = (first.is_read, rest.are_read); are = first.left ∙ ap (λ l. first.text ∷ l) rest.are }
