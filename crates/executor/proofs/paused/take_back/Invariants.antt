use Rattle.std.proofs.Common.{◌≡◌, ◌≤◌, length, take}
use Rattle.std.specs.Prelude.{All}
use Rattle.transactions.specs.Acting.{CanAllBeUndone}
use Rattle.executor.proofs.paused.take_back.Given as goal

-- the first claims are the same, and all that was done under those that are held can be taken back
abbrev pub invariant-loop-held : goal.invariant-loop-held
invariant-loop-held g l = record {
  same : take l.fn.first l.held ≡ take l.fn.first l.fn.held;
  many : l.fn.first ≤ length l.held;
  undone : All CanAllBeUndone l.held;
}

abbrev pub decreases-loop-held : goal.decreases-loop-held
decreases-loop-held g l = length l.held
