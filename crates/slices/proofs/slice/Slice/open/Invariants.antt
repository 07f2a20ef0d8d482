use Rattle.std.proofs.Common.{◌≡◌, length, All}
use Rattle.slices.proofs.Opened.{IsIdle}
use Rattle.slices.proofs.slice.Slice.open.Given as goal

-- the first groups have an undo log, in which nothing was done
abbrev pub invariant-loop : goal.invariant-loop
invariant-loop g l = record {
  many : length l.undo_logs.items ≡ l.counter;
  idle : All IsIdle l.undo_logs.items;
}
