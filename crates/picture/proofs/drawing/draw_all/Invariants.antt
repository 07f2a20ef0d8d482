use Rattle.std.proofs.Common.{◌≡◌, ℕ, List, take, Some}
use Rattle.std.specs.Io.KnownBytes.{Appends}
use Rattle.picture.specs.Drawing.{texts}
use Rattle.picture.proofs.drawing.draw_all.Given as goal

abbrev pub invariant-loop-sign : goal.invariant-loop-sign
invariant-loop-sign g l =
    (text : g.row.D.Denot → List ℕ) → ((sign : g.row.D.Denot) → g.D.Display.output sign ≡ Some (text sign))
    → Appends (g.W.Write.contents l.initial.sink) (g.W.Write.contents l.sink) (texts text (take l.sign-index l.signs))
