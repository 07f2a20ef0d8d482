-- The fault of a record, by what its first field says that it is.
use Rattle.std.proofs.Common.{◌≡◌, ◌<◌, ◌^◌, ℕ, suc, List, [], ◌∷◌, ◌++◌, map, length, drop, sum, Bool, true, false, Option, Some, None, codes, refl, sym, ap, subst, ◌∙◌}
use Rattle.std.specs.Str.{bytes_eq, is_utf8}
use Rattle.std.proofs.lemmas.List.{append-nil}
use Rattle.std.proofs.lemmas.Str.{is_utf8-from_IsUtf8, IsUtf8-from_is_utf8}
use Rattle.files.specs.declared.fault.FaultKind.{FaultKind}
use Rattle.files.specs.declared.fault.FaultKind.TheVariants as fault
use Rattle.files.specs.declared.fields.Fields.{Fields}
use Rattle.files.specs.FieldRead.{FieldsView, fields_view, next_read}
use Rattle.files.specs.KindsRead.{word_read}
use Rattle.files.specs.Taken.{Takes, fault_of, fields_left, with_fault}
use Rattle.files.proofs.KindsRead.{word_is, no_word}
use Rattle.dataset.specs.declared.loader.Loader.{Loader}
use Rattle.dataset.specs.declared.loader.Taken.TheVariants.{Row, End}
use Rattle.files.specs.Columns.{Column, Count, at_end, take_columns}
use Rattle.dataset.specs.declared.format.Format.{Format}
use Rattle.dataset.specs.declared.format.Format.TheVariants.{One}
use Rattle.dataset.specs.Columns.{Of, Table, Items, Lines, fields_fault, kind_fault, kind_of, letter, line_kind, sizes}
use Rattle.dataset.specs.Order.{place_numbers}
use Rattle.dataset.specs.Records.{AreSpelt}
use Rattle.dataset.specs.TakenAs.{HasRow, IsDone, IsRowOf, IsTakenAs}
use Rattle.dataset.specs.Writing.{row_counts, table_counts}

-- a word that was taken, and what is left behind it
pub record TookWord (word : List ℕ) (before : List (List ℕ)) (known : Option FaultKind) (new : FieldsView) : Type 0 where
  pub left : before ≡ word ∷ new.left
  pub fault : new.fault ≡ known

pub some_word : (letter : List ℕ) (n : ℕ) (word : List ℕ) (left : List (List ℕ)) (known : Option FaultKind) (new : FieldsView) → length letter ≡ suc n → word ≡ letter
    → ◌≡◌ {A = List ℕ × FieldsView} (word, new) (next_read word_read [] left known) → TookWord letter left known new
some_word letter n word [] known new some is e =
    let none : word ≡ [] = ap (λ (p : List ℕ × FieldsView). p.0) e in
    let clash : suc n ≡ 0 = sym some ∙ ap length (sym is ∙ none) in
    absurd cc
some_word letter n word (field ∷ rest) known new some is e = by (is_utf8 field) refl
  where
    by : (b : Bool) → is_utf8 field ≡ b → TookWord letter (field ∷ rest) known new
    by true utf8 =
        let read = word_is field (IsUtf8-from_is_utf8 field utf8) in
        let done = rw read at e in
        let word_same : word ≡ field = ap (λ (p : List ℕ × FieldsView). p.0) done in
        let left_same : new.left ≡ rest = ap (λ (p : List ℕ × FieldsView). p.1.left) done in
        record { left = λ i. (sym word_same ∙ is) i ∷ sym left_same i; fault = ap (λ (p : List ℕ × FieldsView). p.1.fault) done }
    by false not_utf8 =
        let read = no_word field (λ u. let yes = is_utf8-from_IsUtf8 field u in let no : true ≡ false = sym yes ∙ not_utf8 in cc) in
        let done = rw read at e in
        let none : word ≡ [] = ap (λ (p : List ℕ × FieldsView). p.0) done in
        let clash : suc n ≡ 0 = sym some ∙ ap length (sym is ∙ none) in
        absurd cc

-- the format has records of the table: only format 1 has those of ORDER-LINE
abbrev pub HasTable : Format → Table → Type 0
HasTable format Lines = format ≡ One
HasTable format table = Unit {0}

pub kind_of_letter : (format : Format) (table : Table) → HasTable format table → kind_of format (letter table) ≡ Some (Of table)
kind_of_letter format Lines one = ap line_kind one
kind_of_letter format table has = refl

pub letter_is_not_end : (table : Table) → bytes_eq (letter table) (codes "END") ≡ false
letter_is_not_end Items = refl
letter_is_not_end table = refl

one_letter : (table : Table) → length (letter table) ≡ 1
one_letter Items = refl
one_letter table = refl

-- what was taken of a record as the bytes of its first field
pub record TookBytes (word : List ℕ) (old new : Fields) : Type 0 where
  pub left : fields_left new ≡ drop 1 (fields_left old)
  pub none : fields_left old ≡ [] → (word ≡ []) × (fault_of new ≡ Some (with_fault (fault_of old) fault.WrongShape))
  pub some : (field : List ℕ) (rest : List (List ℕ)) → fields_left old ≡ field ∷ rest → (word ≡ field) × (fault_of new ≡ fault_of old)

some_bytes : (known : List ℕ) (n : ℕ) (word : List ℕ) (old new : Fields) → length known ≡ suc n → word ≡ known → TookBytes word old new
    → TookWord known (fields_left old) (fault_of old) (fields_view new)
some_bytes known n word old new some is took =
    elim (fields_left old) as (λ left. fields_left old ≡ left → TookWord known (fields_left old) (fault_of old) (fields_view new)) [
      | [] ↦ λ e. let clash : suc n ≡ 0 = sym some ∙ ap length (sym is ∙ (took.none e).0) in absurd cc
      | field ∷ rest ↦ λ e.
          let read = took.some field rest e in
          record { left = e ∙ (λ i. (sym read.0 ∙ is) i ∷ sym (took.left ∙ ap (drop 1) e) i); fault = read.1 }
    ] refl

-- a row's record, behind its letter
pub row_is : (table : Table) (l m : Loader) (old mid new : Fields) (word : List ℕ) → HasTable l.format table → word ≡ letter table
    → TookBytes word old mid → (fault_of mid ≡ None → IsRowOf table l m mid new)
    → fault_of old ≡ None → IsTakenAs Row l m old new
row_is table l m old mid new word there is took taken none =
    let s = sizes l.format l.scale in
    let kind = kind_of_letter l.format table there in
    let read = some_bytes (letter table) 0 word old mid (one_letter table) is took in
    let row = taken (read.fault ∙ none) in
    record {
      fault = λ few. row.fault ∙ sym (ap (λ fields. fields_fault s (place_numbers l.last) (table_counts l.rows) fields) read.left
          ∙ ap (λ k. kind_fault s (place_numbers l.last) (table_counts l.rows) k (fields_left mid)) kind);
      done = λ free.
          let has : HasRow l m (letter table) (fields_left mid) = record { table = table; is_letter = refl; is_kind = kind; none = sym row.fault ∙ free; added = row.added free } in
          subst (IsDone Row l m) (sym read.left) has;
    }

pub end_none : (left : List (List ℕ)) (known : Option FaultKind) → at_end left known ≡ None → (left ≡ []) × (known ≡ None)
end_none [] known e = (refl, e)
end_none (field ∷ fields) known e = absurd cc

-- the end record
pub end_is : (l : Loader) (old mid checked new : Fields) (word : List ℕ) → word ≡ codes "END"
    → TookBytes word old mid
    → (sum (map length l.rows.histories.items) < 2 ^ 64 → fields_view checked ≡ take_columns (map (λ count. Count count) (table_counts l.rows)) (fields_view mid))
    → Takes mid checked (AreSpelt (row_counts l.rows))
    → fault_of new ≡ at_end (fields_left checked) (fault_of checked) → fault_of old ≡ None → IsTakenAs End l l old new
end_is l old mid checked new word is took counted takes ended none =
    let read = some_bytes (codes "END") 2 word old mid refl is took in
    let start : fields_view mid ≡ record { left = fields_left mid; fault = None } = ap (λ (f : Option FaultKind). record { left = fields_left mid; fault = f }) (read.fault ∙ none) in
    let columns : List Column = map (λ count. Count count) (table_counts l.rows) in
    record {
      fault = λ few. ended ∙ ap (λ (t : FieldsView). at_end t.left t.fault) (counted few ∙ ap (take_columns columns) start)
          ∙ sym (ap (λ fields. fields_fault (sizes l.format l.scale) (place_numbers l.last) (table_counts l.rows) fields) read.left);
      done = λ free.
          let whole = end_none (fields_left checked) (fault_of checked) (sym ended ∙ free) in
          let counts = takes whole.1 in
          let texts : fields_left mid ≡ counts.texts = counts.left ∙ ap (λ l. counts.texts ++ l) whole.0 ∙ append-nil counts.texts in
          subst (IsDone End l l) (sym read.left) (refl, refl, (refl, subst (AreSpelt (row_counts l.rows)) (sym texts) counts.are_said));
    }
