use Rattle.std.proofs.Common.{◌≡◌, [], ℕ, ◌+◌, ◌<◌, ◌≤◌, length}
use Rattle.std.specs.Prelude.{Some, slice_get}
use Rattle.queues.specs.Ends.{taking, sending}
use Rattle.queues.proofs.opening.senders_of.Given as goal

abbrev pub invariant-loop-inbox : goal.invariant-loop-inbox
invariant-loop-inbox g l = record {
  takers : length l.takers.items ≡ g.J.InboxNames.inboxes;
  done : (k : ℕ) (t : _) → slice_get l.takers.items k ≡ Some t → k < l.inbox → t ≡ taking (g.J.InboxNames.inbox k) (l.number + 1) [];
  left : (k : ℕ) (t : _) → slice_get l.takers.items k ≡ Some t → l.inbox ≤ k → t ≡ taking (g.J.InboxNames.inbox k) l.number [];
  senders : length l.senders.items ≡ l.inbox;
  each : (k : ℕ) (s : _) → slice_get l.senders.items k ≡ Some s → s ≡ sending (g.J.InboxNames.inbox k) l.number [];
}
