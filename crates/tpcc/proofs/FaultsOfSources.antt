-- Errors in reading and writing files, as faults that a command reports.
use Rattle.std.proofs.Common.{◌≡◌, ◌⊎◌, inl, inr, List, ℕ, Option, Some, Result, Ok, Err, IfErr, OnErr, refl, sym, subst}
use Rattle.std.specs.Borrow.{Bor}
use Rattle.files.specs.declared.fault.FileError.{FileError}
use Rattle.files.specs.declared.fault.FileError.TheVariants.{NoMemory, Failed, File}
use Rattle.files.specs.declared.fault.FileFault.{FileFault}
use Rattle.files.specs.Failure.{IsOfText, IsOfWriting as IsOfSink}
use Rattle.files.specs.FirstFault.{ReportsFault}
use Rattle.dataset.specs.FirstFault.{IsFaultOf, Reports}
use Rattle.tpcc.specs.declared.command_fault.CommandFault.{CommandFault}
use Rattle.terminals.specs.FirstFault.{moves_fault}
use Rattle.tpcc.specs.EarlyEnds.{IsOfMoves}
use Rattle.tpcc.specs.Faults.{IsFirst, IsOfReading, IsOfWriting, IsOfWritingSome, OfRecords, fault_of_file, standard_output}

module _ (path : Bor (List ℕ)) (source : Option (List ℕ)) (lasts : Type 0) where
  of_read : (IsFault : List (List (List ℕ)) → FileFault → Type 0) (error : FileError) (f : CommandFault) → f ≡ fault_of_file path error → (lasts → IsOfText error)
      → ((of : FileFault) → error ≡ File of → OfRecords source (λ rows. IsFault rows of)) → IsOfReading path.now source lasts IsFault f
  of_read IsFault NoMemory f is fine reported = subst (IsOfReading path.now source lasts IsFault) (sym is) tt
  of_read IsFault (Failed number) f is fine reported = subst (IsOfReading path.now source lasts IsFault) (sym is) (refl, fine)
  of_read IsFault (File of) f is fine reported = subst (IsOfReading path.now source lasts IsFault) (sym is) (refl, reported of refl)

  -- of a dataset
  pub of_tables : (error : FileError) (f : CommandFault) → f ≡ fault_of_file path error → (lasts → IsOfText error) → OfRecords source (λ rows. Reports rows error) → IsOfReading path.now source lasts IsFaultOf f
  of_tables error f is fine reported = of_read IsFaultOf error f is fine (λ of e text rows known csv few. subst (Reports rows) e (reported text rows known csv few))

  -- of records whose first fault is such
  pub of_records : (first : List (List (List ℕ)) → Option FileFault) (error : FileError) (f : CommandFault) → f ≡ fault_of_file path error → (lasts → IsOfText error)
      → OfRecords source (λ rows. ReportsFault error (first rows)) → IsOfReading path.now source lasts (IsFirst first) f
  of_records first error f is fine reported = of_read (IsFirst first) error f is fine (λ of e text rows known csv few. subst (λ x. ReportsFault x (first rows)) e (reported text rows known csv few))

-- of a file that is written
pub of_sink : (path : Bor (List ℕ)) (error : FileError) (f : CommandFault) → f ≡ fault_of_file path error → IsOfSink error → IsOfWriting path.now f
of_sink path NoMemory f is failed = subst (IsOfWriting path.now) (sym is) tt
of_sink path (Failed number) f is failed = subst (IsOfWriting path.now) (sym is) refl
of_sink path (File of) f is failed = absurd failed

-- what is printed, or the log that gets its name then
pub of_printing : {A : Type 0} (printed : Result A CommandFault) (log path : Option (Bor (List ℕ))) (f : CommandFault) → IfErr printed (IsOfWriting standard_output)
    → log ≡ path → (printed ≡ Err f) ⊎ IsOfWritingSome log f → IsOfWritingSome path f ⊎ IsOfWriting standard_output f
of_printing {A} printed log path f out is (inl e) = let Said : Result A CommandFault → Type 0 = λ r. IfErr r (IsOfWriting standard_output) in inr (subst Said e out)
of_printing printed log path f out is (inr naming) = inl (subst (λ o. IsOfWritingSome o f) is naming)

-- one of these two, among three
pub log_or_output : {A B C : Type 0} → A ⊎ B → A ⊎ (B ⊎ C)
log_or_output (inl a) = inl a
log_or_output (inr b) = inr (inl b)

-- two things that are so where it fails
pub both_on_err : {T E : Type 0} (P Q : Type 0) (r : Result T E) → OnErr r P → OnErr r Q → OnErr r (P × Q)
both_on_err P Q (Ok t) p q = tt
both_on_err P Q (Err e) p q = (p, q)

-- of moves that there are
pub of_moves : {S : Type 0} (remaining : S → Option (List ℕ)) (lasts : S → Type 0) (path : Option (Bor (List ℕ))) (source : Option S) (at : Bor (List ℕ)) (from : S) (f : CommandFault)
    → path ≡ Some at → source ≡ Some from → IsOfReading at.now (remaining from) (lasts from) (IsFirst moves_fault) f → IsOfMoves remaining lasts path source f
of_moves {S} remaining lasts path source at from f is_path is_source said =
    subst (λ (p : Option (Bor (List ℕ))). IsOfMoves remaining lasts p source f) (sym is_path) (subst (λ (o : Option S). IsOfMoves remaining lasts (Some at) o f) (sym is_source) said)
