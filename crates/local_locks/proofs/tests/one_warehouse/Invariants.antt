use Rattle.std.proofs.Common.{◌≡◌, vec_len}
use Rattle.local_locks.proofs.tests.one_warehouse.Given as goal

-- so many are open
abbrev pub invariant-loop : goal.invariant-loop
invariant-loop l = vec_len l.openings ≡ l.counter
