-- The first fault of the records that are left, of what is listed.
use Rattle.std.proofs.Common.{◌≡◌, ◌≤◌, ◌<◌, ◌^◌, ◌+◌, ◌-◌, inl, inr, ℕ, List, [], ◌∷◌, length, Bool, true, false, Option, Some, None, refl, sym, ap, subst, ◌∙◌, arith}
use Rattle.files.specs.declared.fault.FaultKind.TheVariants as fault
use Rattle.files.specs.declared.fault.FileFault.{FileFault}
use Rattle.files.specs.declared.fault.FileError.{FileError}
use Rattle.files.specs.declared.fault.FileError.TheVariants.{NoMemory, Failed, File}
use Rattle.files.specs.declared.records.Records.{Records}
use Rattle.files.specs.declared.fault.FaultKind.{FaultKind}
use Rattle.files.specs.declared.fields.Fields.{Fields}
use Rattle.files.specs.Columns.{at_end, take_word}
use Rattle.files.specs.FieldRead.{FieldsView, fields_view}
use Rattle.files.specs.Taken.{fault_of, fields_left}
use Rattle.files.specs.FirstFault.{ReportsFault, ReportsKind, behind_end, fault_at}
use Rattle.files.specs.Place.{FirstIsTooLong, HasLeft, IsErrorAt, IsNextNumber, NextLeftIsTooLong, TakesNext, file_fault, record_fields, record_number}
use Rattle.files.specs.Span.{record_size}
use Rattle.files.proofs.RecordsLeft.{long_record, next_row, no_row, not_advanced, short_record}
use Rattle.terminals.specs.FirstFault.{ReachesEnd, after_listed, fields_fault, is_end, listing_fault}

-- ---- one record more

module _ (take : ℕ → List ℕ → FieldsView → FieldsView) where
  -- an item's record without a fault
  pub item_passes : (count : ℕ) (row : List (List ℕ)) (rest : List (List (List ℕ))) → record_size row ≤ 65536 → fields_fault take count row ≡ None → is_end row ≡ false
      → listing_fault take count (row ∷ rest) ≡ listing_fault take (count + 1) rest
  unfolding listing_fault
  item_passes count row rest short none no_end = rw (short_record row (fields_fault take count row) short ∙ none, no_end) refl

  -- the end record
  pub end_passes : (count : ℕ) (row : List (List ℕ)) (rest : List (List (List ℕ))) → record_size row ≤ 65536 → fields_fault take count row ≡ None → is_end row ≡ true
      → listing_fault take count (row ∷ rest) ≡ behind_end (count + 1) rest
  unfolding listing_fault
  end_passes count row rest short none end = rw (short_record row (fields_fault take count row) short ∙ none, end) refl

  -- a fault is the first one
  pub fault_found : (count : ℕ) (row : List (List ℕ)) (rest : List (List (List ℕ))) (error : FileError) (number : ℕ) → record_size row ≤ 65536 → number ≡ count + 1
      → ReportsKind error (fields_fault take count row) number → ReportsFault error (listing_fault take count (row ∷ rest))
  unfolding listing_fault
  fault_found count row rest NoMemory number short same reports = tt
  fault_found count row rest (Failed at) number short same reports = absurd reports
  fault_found count row rest (File f) number short same reports =
      let is : f ≡ fault_at f.kind (count + 1) = (λ i. record { kind = f.kind; «record» = (reports.1 ∙ same) i }) in
      rw (short_record row (fields_fault take count row) short ∙ reports.0) (ap (λ (x : FileFault). Some x) (sym is))

  -- a record that is too long
  pub long_found : (count : ℕ) (rows : List (List (List ℕ))) → FirstIsTooLong rows → listing_fault take count rows ≡ Some (fault_at fault.WrongShape (count + 1))
  unfolding listing_fault
  long_found count [] long = absurd long
  long_found count (row ∷ rows) long = rw (long_record row (fields_fault take count row) long) refl

  pub no_end : (count : ℕ) → listing_fault take count [] ≡ Some (fault_at fault.NoEnd (count + 1))
  unfolding listing_fault
  no_end count = refl

-- ---- in the midst of the records

-- so many items were read, and the first fault is that of the records that are left
pub record GoesOnAt {R : Type 0} (remaining : R → Option (List ℕ)) (take : ℕ → List ℕ → FieldsView → FieldsView) (rows : List (List (List ℕ))) (count : ℕ) (r : Records R) (counter : ℕ) : Type 0 where
  pub left : List (List (List ℕ))
  pub number : record_number r ≡ count
  pub has_left : HasLeft remaining left r
  pub fault : listing_fault take 0 rows ≡ listing_fault take count left
  pub long : count + length left ≡ length rows
  pub counted : length left + counter ≤ length rows

-- at a record that is there
pub record AtRecord {R : Type 0} (remaining : R → Option (List ℕ)) (take : ℕ → List ℕ → FieldsView → FieldsView) (rows : List (List (List ℕ))) (count : ℕ) (new : Records R) (counter : ℕ) : Type 0 where
  pub rest : List (List (List ℕ))
  pub number : record_number new ≡ count + 1
  pub has_left : HasLeft remaining rest new
  pub fault : listing_fault take 0 rows ≡ listing_fault take count (record_fields new ∷ rest)
  pub long : count + 1 + length rest ≡ length rows
  pub counted : length rest + 1 + counter ≤ length rows

module _ {R : Type 0} (remaining : R → Option (List ℕ)) (take : ℕ → List ℕ → FieldsView → FieldsView) (rows : List (List (List ℕ))) (count : ℕ) (old new : Records R) (counter : ℕ) (few : length rows < 2 ^ 64 - 1)
    (number : IsNextNumber (record_number old) (record_number new)) where
  module _ (g : GoesOnAt remaining take rows count old counter) where
    next_number : record_number new ≡ count + 1
    next_number = let n = g.number in let long = g.long in number (omega (arith, n, long, few)) ∙ ap (λ k. k + 1) n

    pub at_record : (found : Bool) → found ≡ true → TakesNext remaining found old new → AtRecord remaining take rows count new counter
    at_record found is_found next =
        let row = next_row remaining g.left found new is_found (next g.left g.has_left) in
        let one : length g.left ≡ length row.0 + 1 = let e = ap length row.1 in omega (arith, e) in
        let long = g.long in
        let counted = g.counted in
        record {
          rest = row.0;
          number = next_number;
          has_left = row.2;
          fault = g.fault ∙ ap (listing_fault take count) row.1;
          long = omega (arith, long, one);
          counted = omega (arith, counted, one);
        }

    -- no further record could be read
    pub fault_advancing : (error : FileError) → IsErrorAt fault.WrongShape (record_number new) error
        → (error ≡ file_fault fault.WrongShape (record_number new) → NextLeftIsTooLong remaining old) → ReportsFault error (listing_fault take 0 rows)
    fault_advancing error faults long =
        not_advanced error (record_number new) (listing_fault take 0 rows) faults
        (λ e. g.fault ∙ long_found take count g.left (long e g.left g.has_left) ∙ ap (λ n. Some (fault_at fault.WrongShape n)) (sym next_number))

    -- there is none
    pub fault_at_last : (error : FileError) (found : Bool) → error ≡ file_fault fault.NoEnd (record_number new) → found ≡ false
        → TakesNext remaining found old new → ReportsFault error (listing_fault take 0 rows)
    fault_at_last error found is none next =
        let empty = no_row remaining g.left found new none (next g.left g.has_left) in
        subst (λ e. ReportsFault e (listing_fault take 0 rows)) (sym is)
        (g.fault ∙ ap (listing_fault take count) empty ∙ no_end take count ∙ ap (λ n. Some (fault_at fault.NoEnd n)) (sym next_number))

  -- more records after the end record
  more_left : (more : List (List (List ℕ))) → HasLeft remaining more old → (HasLeft remaining [] old → ⊥) → record_number old + length more ≡ length rows
      → behind_end (record_number old) more ≡ Some (fault_at fault.AfterEnd (record_number new))
  more_left [] left none long = absurd (none left)
  more_left (row ∷ more) left none long = ap (λ n. Some (fault_at fault.AfterEnd n)) (sym (number (omega (arith, long, few))))

  -- the end record was not the last, or it couldn't be seen whether it is
  pub fault_at_end : (e : ReachesEnd remaining take rows old) (error : FileError) → IsErrorAt fault.AfterEnd (record_number new) error
      → (error ≡ file_fault fault.AfterEnd (record_number new) → HasLeft remaining [] old → ⊥) → ReportsFault error (listing_fault take 0 rows)
  fault_at_end e error (inl is) none = subst (λ x. ReportsFault x (listing_fault take 0 rows)) (sym is) tt
  fault_at_end e error (inr (inl is)) none = subst (λ x. ReportsFault x (listing_fault take 0 rows)) (sym is) tt
  fault_at_end e error (inr (inr is)) none = subst (λ x. ReportsFault x (listing_fault take 0 rows)) (sym is) (e.fault ∙ more_left e.more e.left (none is) e.number)

module _ {R : Type 0} (remaining : R → Option (List ℕ)) (take : ℕ → List ℕ → FieldsView → FieldsView) (rows : List (List (List ℕ))) (count : ℕ) (new : Records R) (counter : ℕ)
    (a : AtRecord remaining take rows count new counter) (short : record_size (record_fields new) ≤ 65536) where
  -- an item more was read
  pub next_at : (fields_fault take count (record_fields new) ≡ None) × (is_end (record_fields new) ≡ false) → GoesOnAt remaining take rows (count + 1) new (counter + 1)
  next_at well =
      let long = a.long in
      let counted = a.counted in
      record {
        left = a.rest;
        number = a.number;
        has_left = a.has_left;
        fault = a.fault ∙ item_passes take count (record_fields new) a.rest short well.0 well.1;
        long = omega (arith, long);
        counted = omega (arith, counted);
      }

  -- the end record was read
  pub end_at : (fields_fault take count (record_fields new) ≡ None) × (is_end (record_fields new) ≡ true) → ReachesEnd remaining take rows new
  end_at well =
      let number = a.number in
      let long = a.long in
      record {
        more = a.rest;
        fault = a.fault ∙ end_passes take count (record_fields new) a.rest short well.0 well.1 ∙ ap (λ n. behind_end n a.rest) (sym number);
        left = a.has_left;
        number = omega (arith, number, long);
      }

  -- the record has a fault
  pub fault_at_record : (many : ℕ) → many ≡ count → (error : FileError) → ReportsKind error (fields_fault take many (record_fields new)) (record_number new) → ReportsFault error (listing_fault take 0 rows)
  fault_at_record many same error reports =
      let reported : ReportsKind error (fields_fault take count (record_fields new)) (record_number new) = subst (λ n. ReportsKind error (fields_fault take n (record_fields new)) (record_number new)) same reports in
      subst (ReportsFault error) (sym a.fault) (fault_found take count (record_fields new) a.rest error (record_number new) short a.number reported)

-- ---- a record whose fields were taken

pub fields_were_taken : (take : ℕ → List ℕ → FieldsView → FieldsView) (count : ℕ) (row : List (List ℕ)) (start mid last : Fields) (word : List ℕ)
    → fields_left start ≡ row → fault_of start ≡ None → ◌≡◌ {A = List ℕ × FieldsView} (word, fields_view mid) (take_word (fields_view start)) → fields_view last ≡ after_listed take count word (fields_view mid)
    → fields_fault take count row ≡ at_end (fields_left last) (fault_of last)
fields_were_taken take count row start mid last word left none field is =
    let begun : fields_view start ≡ record { left = row; fault = None } = λ i. record { left = left i; fault = none i } in
    let first : ◌≡◌ {A = List ℕ × FieldsView} (word, fields_view mid) (take_word (record { left = row; fault = None })) = field ∙ ap take_word begun in
    let end : List ℕ × FieldsView → Option FaultKind = λ p. at_end (after_listed take count p.0 p.1).left (after_listed take count p.0 p.1).fault in
    ap end (sym first) ∙ ap (λ (t : FieldsView). at_end t.left t.fault) (sym is)

-- nothing is left behind the end record
pub none_behind : {R : Type 0} (remaining : R → Option (List ℕ)) (take : ℕ → List ℕ → FieldsView → FieldsView) (rows : List (List (List ℕ))) (r : Records R) (e : ReachesEnd remaining take rows r)
    → ((more : List (List (List ℕ))) → HasLeft remaining more r → more ≡ []) → listing_fault take 0 rows ≡ None
none_behind remaining take rows r e none = e.fault ∙ ap (behind_end (record_number r)) (none e.more e.left)
