use Rattle.std.proofs.Common.{◌≡◌, map, take}
use Rattle.local_locks.specs.LockEntries.{age_of_holder}
use Rattle.local_locks.proofs.entry.ages_of.Given as goal

abbrev pub invariant-loop-holder : goal.invariant-loop-holder
invariant-loop-holder l = l.ages.items ≡ map age_of_holder (take l.holder-index l.holders)
