-- The answers to so many sessions are printed.
use Rattle.std.proofs.Common.{take}
use Rattle.files.specs.Sending.{Writes}
use Rattle.tpcc.specs.Run.{AreAllAnswers}
use Rattle.tpcc.proofs.run.print_answers.Given as goal

abbrev pub invariant-loop-session : goal.invariant-loop-session
invariant-loop-session g l = Writes (g.A.Write.contents l.fn.sink) (g.A.Write.contents l.sink) (AreAllAnswers l.fn.log l.fn.scripts 0 (take l.session l.answers))
