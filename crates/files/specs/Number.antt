-- The spelling of whole numbers.
use Rattle.std.specs.Prelude.{◌≡◌, ◌≤◌, ℕ, List, [], ◌∷◌, Bool, false, not, ◌&&◌, ◌==◌, length, Result, Ok, if◌then◌else◌}
use Rattle.std.specs.List.{list_all}
use Rattle.std.specs.Char.{is_ascii_digit}
use Rattle.std.specs.Fmt.{decimal}
use Rattle.files.specs.declared.fault.FaultKind.{FaultKind}

-- decimal digits, the first of which is not 0
abbrev pub is_positive : List ℕ → Bool
is_positive [] = false
is_positive (first ∷ rest) = not (first == 48) && list_all is_ascii_digit (first ∷ rest)

-- `0`, a positive number, or `-` and a positive number
abbrev pub is_number : List ℕ → Bool
is_number [] = false
is_number (first ∷ rest) =
    if first == 45 then is_positive rest
    else (if first == 48 then length rest == 0 else is_positive (first ∷ rest))

-- if the field spells a number from low to high, that number was read
abbrev pub ReadsWhole : ℕ → ℕ → List ℕ → Result ℕ FaultKind → Type 0
ReadsWhole low high field result = (number : ℕ) → decimal number ≡ field → low ≤ number → number ≤ high → result ≡ Ok number
