use Rattle.std.proofs.Common.{◌≡◌, false, take}
use Rattle.local_locks.specs.EntryPlaces.{is_wanted_at}
use Rattle.local_locks.proofs.wanted.is_wanted_at.Given as goal

-- none so far
abbrev pub invariant-loop-want : goal.invariant-loop-want
invariant-loop-want g l = is_wanted_at (take l.want-index l.wants) l.place ≡ false
