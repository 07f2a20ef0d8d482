-- The sessions so far are compared with the log.
use Rattle.std.proofs.Common.{◌≡◌, length}
use Rattle.engine.specs.Rules.{rules_of}
use Rattle.engine.specs.Served.{ServedEach}
use Rattle.engine.proofs.closing.audit_served.Given as goal

abbrev pub invariant-loop-session : goal.invariant-loop-session
invariant-loop-session g l = record {
  count : length l.answers.items ≡ l.session;
  each : ServedEach (rules_of g.J.LogNames.opening g.J.LogNames.most) l.fn.scripts l.fn.log l.answers.items;
  same : l.log ≡ l.fn.log;
}
