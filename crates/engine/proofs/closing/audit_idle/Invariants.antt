-- The sessions so far are compared with the log.
use Rattle.std.proofs.Common.{◌≡◌, ℕ, ◌+◌, ◌<◌, ◌≤◌, []}
use Rattle.std.specs.Vec.Iter.{into_iter_items, into_iter_len}
use Rattle.rows.specs.declared.limits.TheConstants.{SESSIONS}
use Rattle.commit_log.specs.Items.{items_of}
use Rattle.engine.specs.Sessions.{AreNewFrom}
use Rattle.engine.proofs.closing.audit_idle.Given as goal

abbrev pub invariant-loop-session : goal.invariant-loop-session
invariant-loop-session g l =
    (into_iter_len l.lanes + l._session ≡ SESSIONS) × AreNewFrom l._session (into_iter_items l.lanes)
    × ((s : ℕ) → l.fn.idle.first ≤ s → s < l._session → items_of s l.fn.log ≡ []) × (l.log ≡ l.fn.log)
