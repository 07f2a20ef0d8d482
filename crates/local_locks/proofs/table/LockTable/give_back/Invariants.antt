use Rattle.std.proofs.Common.{◌≡◌}
use Rattle.std.specs.Prelude.{All}
use Rattle.local_locks.specs.Asking.{all_kept_after, IsOfHome, IsSettled}
use Rattle.local_locks.specs.Entries.{still_used}
use Rattle.local_locks.proofs.Returns.{AreBack}
use Rattle.local_locks.proofs.table.LockTable.give_back.Given as goal

-- some claims came back, and the others are of the same warehouse
abbrev pub invariant-loop-claim : goal.invariant-loop-claim
invariant-loop-claim g l = record {
  can_next : (goal.iterator-loop-claim g).can_next l.claim-iterator;
  finite : (goal.iterator-loop-claim g).is_finite l.claim-iterator;
  back : AreBack l.fn.self.holdings l.fn.claims.items l.claim-iterator.rest.items l.self.holdings;
  stands : all_kept_after l.claim-iterator.rest.items l.self.stands ≡ all_kept_after l.fn.claims.items l.fn.self.stands;
  waiters : l.self.waiters ≡ l.fn.self.waiters;
  entries : l.self.entries ≡ still_used l.self.holdings l.self.waiters l.fn.self.entries;
  warehouse : l.self.w_id ≡ l.fn.self.w_id;
  home : All (IsOfHome l.fn.self.w_id) l.claim-iterator.rest.items;
  settled : All IsSettled l.claim-iterator.rest.items;
}
