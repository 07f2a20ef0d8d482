use Rattle.std.proofs.Common.{take}
use Rattle.local_locks.specs.EntryPlaces.{AreWantedPlaces}
use Rattle.local_locks.proofs.wanted.wanted_places.Given as goal

-- the places of the first wants are marked
abbrev pub invariant-loop-want : goal.invariant-loop-want
invariant-loop-want g l = AreWantedPlaces (take l.want-index l.wants) l.wanted
