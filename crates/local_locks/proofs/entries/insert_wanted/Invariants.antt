use Rattle.std.proofs.Common.{◌≡◌, ◌≤◌, ◌-◌, ◌++◌}
use Rattle.indexmap.specs.IndexSet.{spare}
use Rattle.local_locks.proofs.WantedPlaces.{so_far}
use Rattle.local_locks.proofs.entries.insert_wanted.Given as goal

-- the wanted ones of the first places were inserted, and there is room for the others
abbrev pub invariant-loop-place : goal.invariant-loop-place
invariant-loop-place g l = record {
  keys : l.places.keys ≡ l.fn.places.keys ++ so_far l.wants l.fn.places.keys l.place;
  room : l.end - l.place ≤ spare l.places;
}
