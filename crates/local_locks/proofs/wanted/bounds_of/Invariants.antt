use Rattle.std.proofs.Common.{◌≡◌, ◌≤◌, ◌<◌, ℕ, [], false, take}
use Rattle.local_locks.specs.EntryPlaces.{is_wanted_at}
use Rattle.local_locks.proofs.wanted.bounds_of.Given as goal

-- no place before the first or from the end on is wanted so far
abbrev pub invariant-loop-want : goal.invariant-loop-want
invariant-loop-want g l = record {
  none : l.wants ≡ [] → l.end ≡ 0;
  most : l.first ≤ 105;
  inside : l.end ≤ 105;
  before : (place : ℕ) → place < l.first → is_wanted_at (take l.want-index l.wants) place ≡ false;
  after : (place : ℕ) → l.end ≤ place → is_wanted_at (take l.want-index l.wants) place ≡ false;
}
