use Rattle.std.proofs.Common.{take}
use Rattle.std.specs.Prelude.{All, MatchOption}
use Rattle.local_locks.specs.Turns.{IsNext, StaysParked}
use Rattle.local_locks.proofs.waiting.next_of.Given as goal

abbrev pub invariant-loop-index : goal.invariant-loop-index
invariant-loop-index g l = MatchOption l.next (All (StaysParked l.locks) (take l.index l.waiters)) (IsNext l.locks (take l.index l.waiters))
