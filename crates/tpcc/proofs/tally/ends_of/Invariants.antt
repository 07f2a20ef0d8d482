-- So many answers are counted.
use Rattle.std.proofs.Common.{◌≡◌, map, take}
use Rattle.tpcc.specs.Tally.{answer_number}
use Rattle.tpcc.proofs.tally.ends_of.Given as goal

abbrev pub invariant-loop-answer : goal.invariant-loop-answer
invariant-loop-answer l = l.ends.items ≡ map (answer_number l.log) (take l.answer-index l.answers)
