-- Texts of a column's width (clause 1.3.1: fixed and variable text).
use Rattle.std.specs.Prelude.{◌≡◌, ℕ, ◌-◌, ◌≤◌, ◌==◌, List, [], ◌∷◌, ◌++◌, Bool, ◌&&◌, nat_le, length, replicate, IsTrue, Result, Ok, Err, if◌then◌else◌}
use Rattle.std.specs.List.{list_all}
use Rattle.rows.specs.declared.text.TextFault.{TextFault}
use Rattle.rows.specs.declared.text.TextFault.TheVariants.{Byte, Width}

-- whether the byte is printable ASCII
abbrev pub is_printable_byte : ℕ → Bool
is_printable_byte byte = nat_le 32 byte && nat_le byte 126

-- printable ASCII, at most `width` bytes
pub record IsText (width : ℕ) (bytes : List ℕ) : Type 0 where
  pub fits : length bytes ≤ width
  pub printable : IsTrue (list_all is_printable_byte bytes)

-- the bytes as a text of that width; a byte that is not printable is reported before a wrong width
abbrev pub text_of : ℕ → List ℕ → Result (List ℕ) TextFault
text_of width bytes =
    if list_all is_printable_byte bytes then (if nat_le (length bytes) width then Ok bytes else Err Width) else Err Byte

-- the bytes before the first zero
abbrev pub before_zero : List ℕ → List ℕ
before_zero [] = []
before_zero (byte ∷ bytes) = if byte == 0 then [] else byte ∷ before_zero bytes

-- as many bytes as the width: a text, padded with zeros
pub record IsPadded (width : ℕ) (bytes : List ℕ) : Type 0 where
  pub text : IsText width (before_zero bytes)
  pub padded : bytes ≡ before_zero bytes ++ replicate (width - length (before_zero bytes)) 0
