-- The lines so far.
use Rattle.std.proofs.Common.{◌≡◌, ℕ, List, map, take, Some}
use Rattle.std.specs.String.{string_bytes}
use Rattle.tpcc.specs.Edges.{lines_text}
use Rattle.tpcc.proofs.streams.text_of.Given as goal

abbrev pub invariant-loop-line : goal.invariant-loop-line
invariant-loop-line g l =
    (text : g.row.L.Denot → List ℕ) → ((line : g.row.L.Denot) → g.L.Display.output line ≡ Some (text line))
    → string_bytes l.whole ≡ lines_text (map text (take l.line-index l.lines))
