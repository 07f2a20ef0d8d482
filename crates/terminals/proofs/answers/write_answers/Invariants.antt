use Rattle.std.proofs.Common.{ℕ, List, take}
use Rattle.files.specs.Sending.{Sends}
use Rattle.files.specs.Written.{csv_text}
use Rattle.terminals.specs.Answers.{AreAnswers}
use Rattle.terminals.proofs.answers.write_answers.Given as goal

abbrev pub invariant-loop-place : goal.invariant-loop-place
invariant-loop-place g l =
    (rows : List (List (List ℕ))) × AreAnswers l.log l.session l.script (take l.place l.answers) rows
    × Sends (g.W.Write.contents l.fn.sink) (g.W.Write.contents l.sink) (csv_text rows) l.writer.text
