use Rattle.std.proofs.Common.{◌≡◌, ℕ, ◌<◌}
use Rattle.std.specs.Prelude.{IsTrue}
use Rattle.queues.specs.Audited.{PairInOrder, PairWhole}
use Rattle.queues.proofs.auditing.audit_one.Given as goal

abbrev pub invariant-loop-sender : goal.invariant-loop-sender
invariant-loop-sender g l = record {
  same : l.desks.items ≡ l.initial.desks.items;
  in_order : (sender : ℕ) → sender < l.sender → PairInOrder l.initial.desks.items l.taker sender;
  whole : IsTrue l.whole → (sender : ℕ) → sender < l.sender → PairWhole l.initial.desks.items l.taker sender;
}
