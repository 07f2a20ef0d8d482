use Rattle.std.proofs.Common.{◌≡◌, take}
use Rattle.std.specs.List.{list_all}
use Rattle.rows.specs.Text.{is_printable_byte}
use Rattle.rows.proofs.text.is_printable.Given as goal

abbrev pub invariant-loop-byte : goal.invariant-loop-byte
invariant-loop-byte l = l.printable ≡ list_all is_printable_byte (take l.byte-index l.bytes)
