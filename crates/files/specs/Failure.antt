-- Why a file was not read or written: its text, memory, or its source or sink.
use Rattle.std.specs.Prelude.{◌≡◌, ◌≢◌, ◌⊎◌, ℕ, Result, IfErr, MatchResult}
use Rattle.files.specs.declared.fault.FaultKind.{FaultKind}
use Rattle.files.specs.declared.fault.FaultKind.TheVariants.{NotOfKind, OutOfRange}
use Rattle.files.specs.declared.fault.FileError.{FileError}
use Rattle.files.specs.declared.fault.FileError.TheVariants.{NoMemory, Failed, File}
use Rattle.files.specs.declared.stop.Stop.{Stop}
use Rattle.files.specs.declared.stop.Stop.TheVariants.{TooLong, Unreadable}

-- the next record was not read for a reason other than a failed read
abbrev pub IsNoFailure : Stop → Type 0
IsNoFailure stop = stop ≢ Unreadable

-- if the next record was not read because it is too long, P holds
abbrev pub IfTooLong : {X : Type 0} → Result X Stop → Type 0 → Type 0
IfTooLong result P = IfErr result (λ stop. stop ≡ TooLong → P)

-- a fault of the text, or out of memory
abbrev pub IsOfText : FileError → Type 0
IsOfText NoMemory = Unit {0}
IsOfText (Failed number) = ⊥
IsOfText (File fault) = Unit {0}

-- a failed write, or out of memory
abbrev pub IsOfWriting : FileError → Type 0
IsOfWriting NoMemory = Unit {0}
IsOfWriting (Failed number) = Unit {0}
IsOfWriting (File fault) = ⊥

-- a failed read or write at the record with that number, or out of memory
abbrev pub IsFailureAt : ℕ → FileError → Type 0
IsFailureAt number error = (error ≡ NoMemory) ⊎ (error ≡ Failed number)

-- a field's fault: its bytes spell no value of its kind, or one out of range
abbrev pub IsOfField : FaultKind → Type 0
IsOfField kind = (kind ≡ NotOfKind) ⊎ (kind ≡ OutOfRange)

-- if no read of the source fails, then after a success no later read fails either, and an error is one that is allowed
abbrev pub LastsThrough : {R X E : Type 0} → (R → Type 0) → R → R → Result X E → (E → Type 0) → Type 0
LastsThrough lasts old new result IsAllowed = lasts old → MatchResult result (λ _. lasts new) IsAllowed
