use Rattle.std.proofs.Common.{◌≡◌, [], ℕ, length}
use Rattle.std.specs.Prelude.{Some, slice_get}
use Rattle.queues.specs.Ends.{taking}
use Rattle.queues.proofs.opening.takers.Given as goal

abbrev pub invariant-loop-inbox : goal.invariant-loop-inbox
invariant-loop-inbox g l = record {
  count : length l.takers.items ≡ l._inbox;
  new : (k : ℕ) (t : _) → slice_get l.takers.items k ≡ Some t → t ≡ taking t.inbox 0 [];
}
