use Rattle.std.proofs.Common.{◌≡◌, length, take}
use Rattle.std.specs.List.{flat_map}
use Rattle.local_locks.specs.Rulings.{spots_of}
use Rattle.local_locks.proofs.granting.count_of.Given as goal

abbrev pub invariant-loop-want : goal.invariant-loop-want
invariant-loop-want g l = l.count ≡ length (flat_map spots_of (take l.want-index l.wants))
