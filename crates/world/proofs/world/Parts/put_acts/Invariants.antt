use Rattle.std.proofs.Common.{◌≡◌, ◌≤◌, ◌+◌, ◌++◌, length}
use Rattle.transactions.specs.declared.laws.TheConstants.{MOST_ACTIONS}
use Rattle.world.specs.Following.{acts_from, acts_of}
use Rattle.world.proofs.world.Parts.put_acts.Given as goal

-- with the actions that are left all of them are put, and there is room for them
abbrev pub invariant-loop-work : goal.invariant-loop-work
invariant-loop-work g l = record {
  can_next : (goal.iterator-loop-work g).can_next l.work-iterator;
  finite : (goal.iterator-loop-work g).is_finite l.work-iterator;
  now : record l.self { outbox = l.self.outbox ++ acts_from l.place l.age l.slot l.carried l.work-iterator.rest.items }
      ≡ record l.fn.self { outbox = l.fn.self.outbox ++ acts_of l.fn.flow l.fn.works.items };
  room : length l.self.outbox + length l.work-iterator.rest.items ≤ 4096;
  small : l.place ≤ MOST_ACTIONS + length l.self.outbox;
}
