-- No two of so many paths are one, and the next is none of so many before it.
use Rattle.std.proofs.Common.{map}
use Rattle.command_line.proofs.PathLists.{HasNoneAt, HasNoneTwice}
use Rattle.command_line.proofs.settings.script.has_twice.Given as goal

abbrev pub invariant-loop-place : goal.invariant-loop-place
invariant-loop-place l = HasNoneTwice (map (λ file. file.now) l.files) l.place

abbrev pub invariant-loop-earlier : goal.invariant-loop-earlier
invariant-loop-earlier l = HasNoneAt (map (λ file. file.now) l.files) l.earlier-index l.place
