-- The entries so far repeat, and the engine has carried them out.
use Rattle.commit_log.proofs.Repeated.{SoFar}
use Rattle.commit_log.proofs.replaying.replay.Given as goal

abbrev pub invariant-loop-place : goal.invariant-loop-place
invariant-loop-place l = SoFar l.fn.opening l.fn.entries l.place l.plain
