use Rattle.std.proofs.Common.{map, take}
use Rattle.dataset.specs.Records.{history_fields}
use Rattle.dataset.specs.Writing.{Puts}
use Rattle.dataset.proofs.histories.write_list.Given as goal

abbrev pub invariant-loop-payment : goal.invariant-loop-payment
invariant-loop-payment g l = Puts (g.W.Write.contents l.fn.sink) (g.W.Write.contents l.sink) l.fn.writer.text l.writer.text (map (history_fields l.home) (take l.payment-index l.payments))
