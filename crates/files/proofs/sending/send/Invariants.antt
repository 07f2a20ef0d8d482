use Rattle.std.proofs.Common.{◌≤◌, length, take}
use Rattle.std.specs.Io.KnownBytes.{Appends}
use Rattle.files.proofs.sending.send.Given as goal

abbrev pub invariant-loop : goal.invariant-loop
invariant-loop g l = (l.sent ≤ length l.bytes) × Appends (g.W.Write.contents l.fn.sink) (g.W.Write.contents l.sink) (take l.sent l.bytes)
