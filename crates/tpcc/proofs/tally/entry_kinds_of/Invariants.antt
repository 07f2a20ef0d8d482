-- So many entries are counted.
use Rattle.std.proofs.Common.{◌≡◌, map, take}
use Rattle.tpcc.specs.Tally.{kind_number}
use Rattle.tpcc.proofs.tally.entry_kinds_of.Given as goal

abbrev pub invariant-loop-entry : goal.invariant-loop-entry
invariant-loop-entry l = l.kinds.items ≡ map (λ entry. kind_number entry.request) (take l.entry-index l.entries)
