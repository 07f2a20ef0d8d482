use Rattle.std.proofs.Common.{◌-◌}
use Rattle.local_locks.specs.Rulings.{IsRuling, spots}
use Rattle.local_locks.proofs.rulings.ruling_on_want.Given as goal

abbrev pub invariant-loop-number : goal.invariant-loop-number
invariant-loop-number g l = IsRuling l.age l.locks (spots l.first (l.number - l.first) l.want.mode) l.ruling
