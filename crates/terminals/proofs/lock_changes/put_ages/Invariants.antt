use Rattle.std.proofs.Common.{◌≡◌, ◌++◌, flat_map, take}
use Rattle.terminals.specs.LockChanges.{age_fields}
use Rattle.terminals.proofs.lock_changes.put_ages.Given as goal

abbrev pub invariant-loop-age : goal.invariant-loop-age
invariant-loop-age l = l.row ≡ l.fn.row ++ flat_map age_fields (take l.age-index l.ages)
