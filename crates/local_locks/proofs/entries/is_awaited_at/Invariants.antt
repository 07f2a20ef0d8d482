use Rattle.std.proofs.Common.{◌≡◌, false, take}
use Rattle.local_locks.specs.EntryPlaces.{is_awaited_at}
use Rattle.local_locks.proofs.entries.is_awaited_at.Given as goal

-- none so far
abbrev pub invariant-loop-waiter : goal.invariant-loop-waiter
invariant-loop-waiter g l = is_awaited_at (take l.waiter-index l.waiters) l.place ≡ false
