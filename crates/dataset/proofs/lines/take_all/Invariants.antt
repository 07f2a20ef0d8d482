use Rattle.dataset.proofs.LinesTaken.{HasLines}
use Rattle.dataset.proofs.lines.take_all.Given as goal

abbrev pub invariant-loop : goal.invariant-loop
invariant-loop l = HasLines l.order l.counter l.last l.ascend l.initial.loader l.loader l.initial.fields l.fields
