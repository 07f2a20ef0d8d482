use Rattle.std.proofs.Common.{◌≡◌, ◌+◌, vec_len}
use Rattle.std.specs.VecDeque.{deque_len}
use Rattle.rows.specs.declared.limits.TheConstants.{SESSIONS}
use Rattle.commit_log.proofs.Opening.{LanesFrom, AreNew}
use Rattle.commit_log.proofs.log_book.LogBook.open.Given as goal

abbrev pub invariant-loop-lane : goal.invariant-loop-lane
invariant-loop-lane g l = record {
  left : LanesFrom g.J.LogNames.length g.J.LogNames.mine g.J.LogNames.asks (vec_len l.sessions) l.lanes.items;
  done : AreNew l.sessions.items;
  count : vec_len l.sessions + deque_len l.lanes ≡ SESSIONS;
}

abbrev pub decreases-loop-lane : goal.decreases-loop-lane
decreases-loop-lane g l = deque_len l.lanes
