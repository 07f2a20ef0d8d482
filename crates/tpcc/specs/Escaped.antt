-- How a text is shown on a terminal.
use Rattle.std.specs.Prelude.{ℕ, List, false, ◌++◌, ◌/◌, ◌%◌, codes, if◌then◌else◌}
use Rattle.std.specs.Char.{encode_utf8, is_control}
use Rattle.std.specs.Fmt.{radix_digits}
use Rattle.std.specs.List.{flat_map}
use Rattle.std.specs.Str.{chars}

-- a control character is shown by its number in two hexadecimal digits, as `\x1b`, and any other as it is
abbrev pub shown_char : ℕ → List ℕ
shown_char c = if is_control c then codes "\\x" ++ (radix_digits 16 false (c / 16) ++ radix_digits 16 false (c % 16)) else encode_utf8 c

-- all characters of a text, in order
abbrev pub shown : List ℕ → List ℕ
shown text = flat_map shown_char (chars text)
