use Rattle.std.proofs.Common.{[]}
use Rattle.executor.proofs.completion.CompletionOwner.begin.Given as goal

-- the round is about nothing
abbrev pub ghosts-convene : goal.ghosts-convene
ghosts-convene g a = record { offset = []; topic = [] }
