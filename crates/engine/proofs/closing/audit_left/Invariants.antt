-- The sessions so far are compared with the log.
use Rattle.std.proofs.Common.{◌≡◌, List, ◌++◌, length}
use Rattle.std.specs.Prelude.{All}
use Rattle.requests.specs.declared.script.Part.{Part}
use Rattle.requests.specs.Script.{AreNumberedByPlace}
use Rattle.engine.specs.Rules.{rules_of}
use Rattle.engine.specs.Interactive.{asked_by, recorded_by}
use Rattle.engine.specs.Served.{ServedEach}
use Rattle.engine.specs.Sessions.{AreAskedFrom}
use Rattle.engine.specs.declared.session.Left.{Left}
use Rattle.engine.proofs.closing.audit_left.Given as goal

abbrev pub invariant-loop-session : goal.invariant-loop-session
invariant-loop-session g l = record {
  can_next : (goal.iterator-loop-session g).can_next l.session-iterator;
  finite : (goal.iterator-loop-session g).is_finite l.session-iterator;
  so_far : (done : List (Left _)) × (l.fn.left.items ≡ done ++ l.session-iterator.rest.items) × (l.asked.items ≡ asked_by done)
      × (l.answers.items ≡ l.fn.answers.items ++ recorded_by done);
  each : (scripts : List (List Part)) → AreAskedFrom (length l.fn.answers.items) scripts l.fn.left.items
      → ServedEach (rules_of g.J.LogNames.opening g.J.LogNames.most) scripts l.fn.log l.fn.answers.items → ServedEach (rules_of g.J.LogNames.opening g.J.LogNames.most) scripts l.fn.log l.answers.items;
  numbered : All AreNumberedByPlace l.asked.items;
  same : l.log ≡ l.fn.log;
}
