use Rattle.commit_log.specs.Lanes.{AreLanes}
use Rattle.commit_log.proofs.unnamed_log.UnnamedLog.with_limit.Given as goal

abbrev pub invariant-loop-session : goal.invariant-loop-session
invariant-loop-session l = AreLanes l._session l.length l.mine.items l.lanes.items
