use Rattle.std.proofs.Common.{subst, ◌∙◌, arith}
use Rattle.std.specs.Vec.Iter.{into_iter_items}
use Rattle.engine.specs.Sessions.{AreNewFrom}
use Rattle.engine.proofs.Sessions.{new_next, none_of, none_next}
use Rattle.engine.proofs.closing.audit_idle.Goals as goal

-- one session more, which is new
pub loop-session-preserved : goal.loop-session-preserved
loop-session-preserved g c =
    let session = c.loop-session._session in
    let lane = c.in-Some in
    let known = c.loop-session.invariant in
    let next = lane.ensures.cases in
    let rest = new_next session lane.pass lane._seat (into_iter_items c.next.new.self) (subst (AreNewFrom session) next.0 known.1) c.loop-session-test.true in
    let none = none_of session lane.pass c.loop-session.log c.args.log.now rest.0 c.audit.ensures.mine known.3 in (
      omega (arith, known.0, next.1),
      rest.2,
      none_next c.args.idle.first session c.args.log.now known.2 none,
      c.audit.ensures.same.0 ∙ known.3,
    )
