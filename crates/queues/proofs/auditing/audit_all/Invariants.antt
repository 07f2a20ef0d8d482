use Rattle.std.proofs.Common.{◌≡◌, ℕ, ◌<◌, length}
use Rattle.std.specs.Prelude.{IsTrue}
use Rattle.queues.specs.Audited.{PairInOrder, PairWhole}
use Rattle.queues.proofs.auditing.audit_all.Given as goal

abbrev pub invariant-loop-taker : goal.invariant-loop-taker
invariant-loop-taker g l = record {
  same : l.desks.items ≡ l.initial.desks.items;
  in_order : (taker sender : ℕ) → taker < l.taker → sender < length l.initial.desks.items → PairInOrder l.initial.desks.items taker sender;
  whole : IsTrue l.whole → (taker sender : ℕ) → taker < l.taker → sender < length l.initial.desks.items → PairWhole l.initial.desks.items taker sender;
}
