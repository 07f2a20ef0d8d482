use Rattle.std.proofs.Common.{◌≡◌, ◌||◌, not}
use Rattle.std.specs.Prelude.{filter, nat_lt}
use Rattle.local_locks.specs.EntryPlaces.{is_used_at}
use Rattle.local_locks.proofs.entries.keep_used.Given as goal

-- the first places were looked at
abbrev pub invariant-loop-place : goal.invariant-loop-place
invariant-loop-place g l = l.entries ≡ filter (λ p. is_used_at l.locks l.waiters p || not (nat_lt p l.place)) l.fn.entries
