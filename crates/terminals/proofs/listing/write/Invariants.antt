use Rattle.std.proofs.Common.{ℕ, List, take}
use Rattle.files.specs.Sending.{Sends}
use Rattle.files.specs.Written.{csv_text}
use Rattle.terminals.specs.Numbered.{AreNumbered}
use Rattle.terminals.proofs.listing.write.Given as goal

abbrev pub invariant-loop-place : goal.invariant-loop-place
invariant-loop-place g l =
    (rows : List (List (List ℕ))) × AreNumbered g.T.WrittenRecord.is_record 0 (take l.place l.items) rows
    × Sends (g.W.Write.contents l.fn.sink) (g.W.Write.contents l.sink) (csv_text rows) l.writer.text
