use Rattle.std.proofs.Common.{take}
use Rattle.std.specs.List.{flat_map}
use Rattle.local_locks.specs.Rulings.{IsRuling, spots_of}
use Rattle.local_locks.proofs.rulings.ruling_on.Given as goal

abbrev pub invariant-loop-want : goal.invariant-loop-want
invariant-loop-want g l = IsRuling l.age l.locks (flat_map spots_of (take l.want-index l.wants)) l.ruling
