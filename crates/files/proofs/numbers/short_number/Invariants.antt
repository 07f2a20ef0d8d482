use Rattle.std.proofs.Common.{◌≡◌, ◌+◌, take, decimal}
use Rattle.files.proofs.numbers.short_number.Given as goal

abbrev pub invariant-loop-byte : goal.invariant-loop-byte
invariant-loop-byte l = decimal l.number ≡ take (l.byte-index + 1) l.field
