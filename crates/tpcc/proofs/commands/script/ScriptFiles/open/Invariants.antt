-- So many files are made.
use Rattle.std.proofs.Common.{◌≡◌, length}
use Rattle.tpcc.proofs.commands.script.ScriptFiles.open.Given as goal

abbrev pub invariant-loop-path : goal.invariant-loop-path
invariant-loop-path g l = length l.scripts.items ≡ l.path-index
