-- The numbers of the faults, and the text that reports them.
use Rattle.std.specs.Prelude.{ℕ, List, ◌++◌, codes, nat_le, if◌then◌else◌}
use Rattle.std.specs.Fmt.{decimal}
use Rattle.files.specs.declared.fault.FaultKind.{FaultKind}
use Rattle.files.specs.declared.fault.FaultKind.TheVariants as fault

-- the number by which the program reports a fault
abbrev pub fault_number : FaultKind → ℕ
fault_number fault.NoHeader = 1
fault_number fault.WrongShape = 2
fault_number fault.NotOfKind = 3
fault_number fault.OutOfRange = 4
fault_number fault.OutOfOrder = 5
fault_number fault.ScaleBroken = 6
fault_number fault.NoEnd = 7
fault_number fault.WrongCount = 8
fault_number fault.AfterEnd = 9

-- the fault with the lesser number
abbrev pub least_fault : FaultKind → FaultKind → FaultKind
least_fault a b = if nat_le (fault_number a) (fault_number b) then a else b

-- the text that reports the fault with that number at that record
abbrev pub fault_text : ℕ → ℕ → List ℕ
fault_text number at = codes "row " ++ (decimal at ++ (codes ": fault " ++ decimal number))
