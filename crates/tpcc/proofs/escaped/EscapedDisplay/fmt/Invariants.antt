-- The characters so far are shown.
use Rattle.std.proofs.Common.{◌≡◌, ◌++◌, List, ℕ, IsUtf8}
use Rattle.std.specs.Str.Iter.{chars_rest}
use Rattle.std.specs.Fmt.{HasWritten, IsPlainFormatter}
use Rattle.tpcc.specs.Escaped.{shown}
use Rattle.tpcc.proofs.escaped.EscapedDisplay.fmt.Given as goal

abbrev pub invariant-loop-character : goal.invariant-loop-character
invariant-loop-character g l =
    IsUtf8 (chars_rest l.character-iterator)
    × (IsPlainFormatter l.fn.f → (before : List ℕ) × HasWritten g.W.Write.write_str_gives l.fn.f before l.f × (before ++ shown (chars_rest l.character-iterator) ≡ shown l.fn.self.0.now))
