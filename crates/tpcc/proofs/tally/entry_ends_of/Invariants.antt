-- So many entries are counted.
use Rattle.std.proofs.Common.{◌≡◌, map, take}
use Rattle.tpcc.specs.Tally.{end_number}
use Rattle.tpcc.proofs.tally.entry_ends_of.Given as goal

abbrev pub invariant-loop-entry : goal.invariant-loop-entry
invariant-loop-entry l = l.ends.items ≡ map end_number (take l.entry-index l.entries)
