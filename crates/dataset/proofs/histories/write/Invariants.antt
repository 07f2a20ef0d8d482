use Rattle.std.proofs.Common.{take}
use Rattle.std.specs.List.{zip}
use Rattle.schema.specs.Scale.{district_keys}
use Rattle.dataset.specs.Records.{payment_records}
use Rattle.dataset.specs.Writing.{Puts}
use Rattle.dataset.proofs.histories.write.Given as goal

abbrev pub invariant-loop-place : goal.invariant-loop-place
invariant-loop-place g l = Puts (g.W.Write.contents l.fn.sink) (g.W.Write.contents l.sink) l.fn.writer.text l.writer.text (payment_records (take l.place (zip (district_keys l.scale) l.lists)))
