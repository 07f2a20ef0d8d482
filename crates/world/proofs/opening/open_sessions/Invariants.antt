use Rattle.std.proofs.Common.{◌≡◌, ◌++◌, map}
use Rattle.world.specs.Openings.{session_with}
use Rattle.world.proofs.opening.open_sessions.Given as goal

-- the sessions of the first lanes are made, and the others follow
abbrev pub invariant-loop-pass : goal.invariant-loop-pass
invariant-loop-pass g l = record {
  can_next : (goal.iterator-loop-pass g).can_next l.pass-iterator;
  finite : (goal.iterator-loop-pass g).is_finite l.pass-iterator;
  sessions : l.sessions.items ++ map session_with l.pass-iterator.rest.items ≡ map session_with l.fn.lanes.items;
}
