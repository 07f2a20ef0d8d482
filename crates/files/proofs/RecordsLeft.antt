-- The records that are left, and why there may be no further one.
use Rattle.std.proofs.Common.{◌≡◌, ◌<◌, ◌≤◌, ◌⊎◌, inl, inr, ℕ, List, [], ◌∷◌, Bool, true, false, Option, Some, nat_lt, refl, sym, ap, subst, ◌∙◌, arith}
use Rattle.std.proofs.lemmas.Bool.Decides.{nat_tests}
use Rattle.files.specs.declared.fault.FaultKind.{FaultKind}
use Rattle.files.specs.declared.fault.FaultKind.TheVariants as fault
use Rattle.files.specs.declared.fault.FileError.{FileError}
use Rattle.files.specs.declared.fault.FileError.TheVariants.{NoMemory, Failed}
use Rattle.files.specs.declared.fault.FileFault.{FileFault}
use Rattle.files.specs.declared.records.Records.{Records}
use Rattle.files.specs.FirstFault.{ReportsFault, fault_at, unless_long}
use Rattle.files.specs.Place.{HasLeft, HasLeftAfter, file_fault, record_fields}
use Rattle.files.specs.Span.{record_size}
use Rattle.files.proofs.Unlike.{true_false}

-- the next record was read
pub next_row : {R : Type 0} (remaining : R → Option (List ℕ)) (rows : List (List (List ℕ))) (found : Bool) (r : Records R) → found ≡ true → HasLeftAfter remaining rows found r
    → (rest : List (List (List ℕ))) × (rows ≡ record_fields r ∷ rest) × HasLeft remaining rest r
next_row remaining [] found r e h = let clash : true ≡ false = sym e ∙ h in absurd (true_false clash)
next_row remaining (row ∷ rows) found r e h = (rows, ap (λ f. f ∷ rows) (sym h.1), h.2)

-- there was none
pub no_row : {R : Type 0} (remaining : R → Option (List ℕ)) (rows : List (List (List ℕ))) (found : Bool) (r : Records R) → found ≡ false → HasLeftAfter remaining rows found r → rows ≡ []
no_row remaining [] found r e h = refl
no_row remaining (row ∷ rows) found r e h = let clash : true ≡ false = sym h.0 ∙ e in absurd (true_false clash)

-- a reader that failed, or a record that is too long
pub not_advanced : (error : FileError) (number : ℕ) (first : Option FileFault) → (error ≡ NoMemory) ⊎ (error ≡ Failed number) ⊎ (error ≡ file_fault fault.WrongShape number)
    → (error ≡ file_fault fault.WrongShape number → first ≡ Some (fault_at fault.WrongShape number)) → ReportsFault error first
not_advanced error number first (inl e) long = subst (λ x. ReportsFault x first) (sym e) tt
not_advanced error number first (inr (inl e)) long = subst (λ x. ReportsFault x first) (sym e) tt
not_advanced error number first (inr (inr e)) long = subst (λ x. ReportsFault x first) (sym e) (long e)

-- a record that is not too long
pub short_record : (row : List (List ℕ)) (kind : Option FaultKind) → record_size row ≤ 65536 → unless_long row kind ≡ kind
short_record row kind short = let no : nat_lt 65536 (record_size row) ≡ false = grind (arith, nat_tests) in rw no refl

-- one that is
pub long_record : (row : List (List ℕ)) (kind : Option FaultKind) → 65536 < record_size row → unless_long row kind ≡ Some fault.WrongShape
long_record row kind long = let yes : nat_lt 65536 (record_size row) ≡ true = grind (arith, nat_tests) in rw yes refl
