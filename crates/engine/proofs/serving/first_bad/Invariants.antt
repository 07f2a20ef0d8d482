-- There can be each move before this one.
use Rattle.std.proofs.Common.{take}
use Rattle.std.specs.Prelude.{All}
use Rattle.range_moves.specs.Orders.{IsWithin}
use Rattle.engine.proofs.serving.first_bad.Given as goal

abbrev pub invariant-loop-place : goal.invariant-loop-place
invariant-loop-place l = All (IsWithin l.fn.warehouses l.fn.executors) (take l.place l.moves)
