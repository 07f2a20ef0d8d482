-- Printable words are ASCII, and so they are text.
use Rattle.std.proofs.Common.{◌<◌, ℕ, List, [], ◌∷◌, IsTrue, IsUtf8, arith}
use Rattle.std.specs.Str.{IsAscii}
use Rattle.std.specs.List.{list_all}
use Rattle.std.proofs.lemmas.Bool.{and_parts}
use Rattle.std.proofs.lemmas.Bool.Decides.{nat_tests}
use Rattle.std.proofs.lemmas.Str.{IsUtf8-from_ascii}
use Rattle.std.proofs.lemmas.Str.Ascii.{IsAscii-nil, IsAscii-cons}
use Rattle.rows.specs.Text.{is_printable_byte}

small_byte : (byte : ℕ) → IsTrue (is_printable_byte byte) → byte < 128
small_byte byte h = grind (arith, nat_tests)

pub ascii_words : (bytes : List ℕ) → IsTrue (list_all is_printable_byte bytes) → IsAscii bytes
ascii_words [] h = IsAscii-nil
ascii_words (byte ∷ bytes) h = IsAscii-cons byte bytes (small_byte byte (and_parts _ _ h).0) (ascii_words bytes (and_parts _ _ h).1)

pub utf8_words : (bytes : List ℕ) → IsTrue (list_all is_printable_byte bytes) → IsUtf8 bytes
utf8_words bytes h = IsUtf8-from_ascii bytes (ascii_words bytes h)
