-- How texts are read.
use Rattle.std.specs.Prelude.{ℕ, List, length, nat_le, codes, Result, Ok, Err, if◌then◌else◌}
use Rattle.std.specs.List.{list_all}
use Rattle.rows.specs.declared.records.Credit.{Credit}
use Rattle.rows.specs.declared.records.Credit.TheVariants.{Good, Bad}
use Rattle.rows.specs.Text.{is_printable_byte}
use Rattle.files.specs.declared.fault.FaultKind.{FaultKind}
use Rattle.files.specs.declared.fault.FaultKind.TheVariants.{NotOfKind, OutOfRange}

-- the bytes as a text of that width; a byte that is not printable is reported before the width
abbrev pub text_read : ℕ → List ℕ → Result (List ℕ) FaultKind
text_read width bytes =
    if list_all is_printable_byte bytes then (if nat_le (length bytes) width then Ok bytes else Err OutOfRange) else Err NotOfKind

-- the spelling of C_CREDIT
abbrev pub credit_text : Credit → List ℕ
credit_text Good = codes "GC"
credit_text Bad = codes "BC"
