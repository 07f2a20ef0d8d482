use Rattle.std.proofs.Common.{◌≡◌, ◌≤◌, ◌+◌, ◌++◌, length}
use Rattle.std.specs.Prelude.{map}
use Rattle.world.specs.Following.{push_of, releasing}
use Rattle.world.proofs.world.Parts.release.Given as goal

-- With the pushes that are left it is as the release leaves it, and there is room for them.
abbrev pub invariant-loop-claims : goal.invariant-loop-claims
invariant-loop-claims g l = record {
  can_next : (goal.iterator-loop-claims g).can_next l.claims-iterator;
  finite : (goal.iterator-loop-claims g).is_finite l.claims-iterator;
  now : record l.self { outbox = l.self.outbox ++ map (push_of l.fn.settle l.slot) l.claims-iterator.rest.items } ≡ releasing l.fn.settle l.fn.over l.fn.self;
  room : length l.self.outbox + length l.claims-iterator.rest.items ≤ 4096;
}
