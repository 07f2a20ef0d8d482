use Rattle.std.proofs.Common.{map}
use Rattle.schema.specs.Entries.{entry}
use Rattle.dataset.specs.Records.{lines_fields}
use Rattle.dataset.specs.Writing.{Adds}
use Rattle.dataset.proofs.lines.put_all.Given as goal

abbrev pub invariant-loop-key : goal.invariant-loop-key
invariant-loop-key l = Adds (lines_fields (map entry l.yielded)) l.fn.out l.out
