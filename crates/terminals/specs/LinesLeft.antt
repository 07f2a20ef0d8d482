-- The lines of a schedule's outputs that are left to print.
use Rattle.std.specs.Prelude.{ℕ, List, drop}
use Rattle.terminals.specs.declared.outputs.LinesLeft.{LinesLeft}
use Rattle.terminals.specs.declared.outputs.NextLine.{NextLine}
use Rattle.terminals.specs.declared.outputs.NextLine.TheVariants.{Reported, Changed}
use Rattle.terminals.specs.LockChanges.{Line, changed, lines, reported}
use Rattle.terminals.specs.Outputs.{IsReportedBelow}

-- the line that comes next
abbrev pub line_of : NextLine → Line
line_of (Reported output) = reported output.now
line_of (Changed change) = changed change.now

-- the lines that are left
abbrev pub lines_left : LinesLeft → List Line
lines_left left = lines left.number (drop left.number left.outputs.now) left.changes.now

-- A place in the log that the line contains is below this number.
abbrev pub IsLineBelow : ℕ → Line → Type 0
IsLineBelow most (reported output) = IsReportedBelow most output
IsLineBelow most (changed change) = Unit {0}
