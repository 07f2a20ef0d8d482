-- The faults of commands, their lines and their exit statuses.
use Rattle.std.specs.Prelude.{◌≡◌, ◌<◌, ◌-◌, ◌^◌, ℕ, List, [], ◌∷◌, ◌++◌, codes, get_or, length, Option, None, Some}
use Rattle.std.specs.Borrow.{Bor}
use Rattle.std.specs.Fmt.{decimal}
use Rattle.engine.specs.declared.outcome.ServeFault.{ServeFault}
use Rattle.engine.specs.declared.outcome.ServeFault.TheVariants as serve
use Rattle.files.specs.declared.fault.FileFault.{FileFault}
use Rattle.files.specs.declared.fault.FileError.{FileError}
use Rattle.files.specs.declared.fault.FileError.TheVariants as read
use Rattle.files.specs.Fault.{fault_number, fault_text}
use Rattle.files.specs.Place.{IsCsv}
use Rattle.tpcc.specs.Escaped.{shown}
use Rattle.tpcc.specs.declared.command_fault.CommandFault.{CommandFault}
use Rattle.tpcc.specs.declared.command_fault.CommandFault.TheVariants as fault
use Rattle.command_line.specs.declared.status.Status.{Status}
use Rattle.command_line.specs.declared.status.Status.TheVariants as status

-- the exit status after each fault of a command
abbrev pub status_of : CommandFault → Status
status_of fault.NoMemory = status.NoMemory
status_of (fault.File path of) = status.Failed
status_of (fault.Failed path number) = status.Failed
status_of (fault.NotConsistent condition) = status.NotConsistent
status_of (fault.BadMove place) = status.Failed
status_of (fault.NoWarehouse warehouse) = status.Usage
status_of fault.NoThread = status.Failed
status_of fault.Unsettled = status.Failed
status_of fault.NotIdle = status.Failed

-- the fault of an error in the file of that path
abbrev pub fault_of_file : Bor (List ℕ) → FileError → CommandFault
fault_of_file path read.NoMemory = fault.NoMemory
fault_of_file path (read.Failed number) = fault.Failed path number
fault_of_file path (read.File of) = fault.File path of

-- the fault of a run whose scripts were not served
abbrev pub fault_of_serving : ServeFault → CommandFault
fault_of_serving serve.NoMemory = fault.NoMemory
fault_of_serving (serve.NotConsistent condition) = fault.NotConsistent condition
fault_of_serving (serve.BadMove place) = fault.BadMove place
fault_of_serving serve.NoThread = fault.NoThread
fault_of_serving serve.Unsettled = fault.Unsettled

-- if it is known what the source gives, and that is the text of fewer than 2^64 - 1 records, `Are` holds of them
abbrev pub OfRecords : Option (List ℕ) → (List (List (List ℕ)) → Type 0) → Type 0
OfRecords source Are = (text : List ℕ) (rows : List (List (List ℕ))) → source ≡ Some text → IsCsv text rows → length rows < 2 ^ 64 - 1 → Are rows

-- the fault is the first that `first` finds in the records
abbrev pub IsFirst : (List (List (List ℕ)) → Option FileFault) → List (List (List ℕ)) → FileFault → Type 0
IsFirst first rows of = first rows ≡ Some of

-- The faults of reading the file of that path. NoMemory: always possible. Failed: a read failed, which is impossible if the source lasts.
-- File: `IsFault` holds of the source's records and the fault.
abbrev pub IsOfReading : List ℕ → Option (List ℕ) → Type 0 → (List (List (List ℕ)) → FileFault → Type 0) → CommandFault → Type 0
IsOfReading path source lasts IsFault fault.NoMemory = Unit {0}
IsOfReading path source lasts IsFault (fault.Failed at number) = (at.now ≡ path) × (lasts → ⊥)
IsOfReading path source lasts IsFault (fault.File at of) = (at.now ≡ path) × OfRecords source (λ rows. IsFault rows of)
IsOfReading path source lasts IsFault _ = ⊥

-- the faults of writing the file of that path: out of memory, or writing failed
abbrev pub IsOfWriting : List ℕ → CommandFault → Type 0
IsOfWriting path fault.NoMemory = Unit {0}
IsOfWriting path (fault.Failed at number) = at.now ≡ path
IsOfWriting path _ = ⊥

-- the faults of writing an optional file
abbrev pub IsOfWritingSome : Option (Bor (List ℕ)) → CommandFault → Type 0
IsOfWritingSome None of = ⊥
IsOfWritingSome (Some path) of = IsOfWriting path.now of

-- the faults of writing one of the files of these paths
pub record IsOfWritingOneOf (paths : List (Bor (List ℕ))) (of : CommandFault) : Type 0 where
  pub place : ℕ
  pub there : place < length paths
  pub path : Bor (List ℕ)
  pub is_path : path ≡ get_or paths place path
  pub said : IsOfWriting path.now of

-- the path of the standard output in a fault
abbrev pub standard_output : List ℕ
standard_output = codes "-"

-- the text of a fault and, below, its line; a failure to read or write has the number 10
abbrev pub reported_text : CommandFault → List ℕ
reported_text fault.NoMemory = codes "no memory"
reported_text (fault.File path of) = shown path.now ++ (codes ": " ++ fault_text (fault_number of.kind) of.«record»)
reported_text (fault.Failed path number) = shown path.now ++ (codes ": " ++ fault_text 10 number)
reported_text (fault.NotConsistent condition) = codes "not consistent: " ++ decimal condition
reported_text (fault.BadMove place) = codes "bad move: " ++ decimal place
reported_text (fault.NoWarehouse warehouse) = codes "no warehouse: " ++ decimal warehouse
reported_text fault.NoThread = codes "no thread"
reported_text fault.Unsettled = codes "unsettled"
reported_text fault.NotIdle = codes "not idle"

abbrev pub reported_line : CommandFault → List ℕ
reported_line of = codes "tpcc: " ++ (reported_text of ++ (10 ∷ []))

-- if it is known which faults were reported, this one was reported after them
abbrev pub Reports : Option (List CommandFault) → Option (List CommandFault) → CommandFault → Type 0
Reports None reported' fault = Unit {0}
Reports (Some faults) reported' fault = reported' ≡ Some (faults ++ fault ∷ [])

-- a command ended early with a fault of which `IsSaid` holds: it was reported, and the exit status is the fault's
pub record EndsEarly (IsSaid : CommandFault → Type 0) (reported reported' : Option (List CommandFault)) (status : Status) : Type 0 where
  pub fault : CommandFault
  pub said : IsSaid fault
  pub reports : Reports reported reported' fault
  pub ends : status ≡ status_of fault
