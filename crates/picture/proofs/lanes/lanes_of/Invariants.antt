use Rattle.std.proofs.Common.{◌≡◌, [], drop}
use Rattle.picture.specs.Lanes.{sessions_from}
use Rattle.picture.proofs.lanes.lanes_of.Given as goal

abbrev pub invariant-loop-item : goal.invariant-loop-item
invariant-loop-item l = sessions_from l.sessions.items (drop l.item-index l.schedule) ≡ sessions_from [] l.schedule
