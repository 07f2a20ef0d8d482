use Rattle.std.proofs.Common.{map}
use Rattle.schema.specs.Entries.{entry}
use Rattle.dataset.specs.Records.{row_records}
use Rattle.dataset.specs.Writing.{Puts}
use Rattle.dataset.proofs.writer.write_ordered.Given as goal

abbrev pub invariant-loop-key : goal.invariant-loop-key
invariant-loop-key g l = Puts (g.W.Write.contents l.fn.sink) (g.W.Write.contents l.sink) l.fn.writer.text l.writer.text (row_records g.T.Recorded.fields (map entry l.yielded))
