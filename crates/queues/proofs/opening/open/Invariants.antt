use Rattle.std.proofs.Common.{◌≡◌, [], ◌<◌, ℕ, Some, slice_get, length}
use Rattle.queues.specs.Ends.{taking, sending}
use Rattle.queues.proofs.opening.open.Given as goal

abbrev pub invariant-loop-number : goal.invariant-loop-number
invariant-loop-number g l = record {
  taker : l.taker ≡ taking l.taker.inbox l._number [];
  count : length l.all.items ≡ l._number;
  senders : (number : ℕ) → number < l._number → slice_get l.all.items number ≡ Some (sending l.taker.inbox number []);
}
