use Rattle.std.proofs.Common.{◌≡◌, map, take}
use Rattle.std.specs.Prelude.{filter}
use Rattle.local_locks.specs.EntryPlaces.{waits_at}
use Rattle.local_locks.specs.LockEntries.{age_of_waiter}
use Rattle.local_locks.proofs.entry.ages_waiting_at.Given as goal

abbrev pub invariant-loop-waiter : goal.invariant-loop-waiter
invariant-loop-waiter g l = l.ages.items ≡ map age_of_waiter (filter (waits_at l.place) (take l.waiter-index l.waiters))
