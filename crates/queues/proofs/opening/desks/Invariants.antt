use Rattle.std.proofs.Common.{◌≡◌, ◌+◌, [], ℕ, length}
use Rattle.std.specs.Prelude.{Some, slice_get}
use Rattle.std.specs.Vec.Iter.{into_iter_items}
use Rattle.queues.specs.Ends.{taking}
use Rattle.queues.specs.Desks.{AreTakersOf, AreSendersOf, new_desk}
use Rattle.queues.proofs.Lists.{AllFrom}
use Rattle.queues.proofs.opening.desks.Given as goal

abbrev pub invariant-loop-number : goal.invariant-loop-number
invariant-loop-number g l = record {
  takers : AreTakersOf g.J.InboxNames.inboxes g.J.InboxNames.inbox l.number l.takers.items;
  count : length l.all.items ≡ l.number;
  rows : (k : ℕ) (row : _) → slice_get l.all.items k ≡ Some row → AreSendersOf g.J.InboxNames.inboxes g.J.InboxNames.inbox k row.items;
}

abbrev pub invariant-loop-taker : goal.invariant-loop-taker
invariant-loop-taker g l = record {
  can : (goal.iterator-loop-taker g).can_next l.taker-iterator;
  finite : (goal.iterator-loop-taker g).is_finite l.taker-iterator;
  number : l.number ≡ length l.yielded;
  takers : AllFrom (λ k t. t ≡ taking (g.J.InboxNames.inbox k) g.J.InboxNames.inboxes []) l.number (into_iter_items l.taker-iterator);
  left : l.number + length (into_iter_items l.taker-iterator) ≡ g.J.InboxNames.inboxes;
  count : l.number + length l.all.items ≡ g.J.InboxNames.inboxes;
  rows : AllFrom (λ k row. AreSendersOf g.J.InboxNames.inboxes g.J.InboxNames.inbox k row.items) l.number l.all.items;
  desks : length l.desks.items ≡ l.number;
  each : (k : ℕ) (desk : _) → slice_get l.desks.items k ≡ Some desk → desk ≡ new_desk g.J.InboxNames.inboxes k;
}
