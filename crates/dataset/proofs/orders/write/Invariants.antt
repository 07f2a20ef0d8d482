use Rattle.std.proofs.Common.{map}
use Rattle.schema.specs.Entries.{entry}
use Rattle.dataset.specs.Writing.{Puts, records_with}
use Rattle.dataset.proofs.orders.write.Given as goal

abbrev pub invariant-loop-key : goal.invariant-loop-key
invariant-loop-key g l = Puts (g.W.Write.contents l.fn.sink) (g.W.Write.contents l.sink) l.fn.writer.text l.writer.text (records_with l.lines (map entry l.yielded))
