-- The places so far are made, and the other sessions wait.
use Rattle.std.proofs.Common.{◌≡◌, ◌+◌}
use Rattle.std.specs.Prelude.{All}
use Rattle.std.specs.Vec.Iter.{into_iter_items, into_iter_len}
use Rattle.rows.specs.declared.limits.TheConstants.{SESSIONS}
use Rattle.engine.specs.Interactive.{HasAskedNothing}
use Rattle.engine.specs.Sessions.{AreNewFrom}
use Rattle.engine.proofs.opening.open_places.Given as goal

abbrev pub invariant-loop-slot : goal.invariant-loop-slot
invariant-loop-slot g l = record {
  sessions : into_iter_len l.lanes + l.slot ≡ SESSIONS;
  new : AreNewFrom l.slot (into_iter_items l.lanes);
  asked : All HasAskedNothing l.sessions.items;
}
