use Rattle.std.proofs.Common.{◌≡◌, ◌++◌, flat_map, take}
use Rattle.terminals.specs.LockChanges.{entry_fields}
use Rattle.terminals.proofs.lock_changes.put_entries.Given as goal

abbrev pub invariant-loop-entry : goal.invariant-loop-entry
invariant-loop-entry l = l.row ≡ l.fn.row ++ flat_map entry_fields (take l.entry-index l.entries)
