use Rattle.std.proofs.Common.{take}
use Rattle.std.specs.List.{zip}
use Rattle.dataset.specs.Records.{row_records}
use Rattle.dataset.specs.Writing.{Puts}
use Rattle.dataset.proofs.writer.write_dense.Given as goal

abbrev pub invariant-loop-place : goal.invariant-loop-place
invariant-loop-place g l = Puts (g.W.Write.contents l.fn.sink) (g.W.Write.contents l.sink) l.fn.writer.text l.writer.text (row_records g.T.Recorded.fields (take l.place (zip (g.T.Dense.keys l.scale) l.rows)))
