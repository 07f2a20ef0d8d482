use Rattle.engine.specs.Rules.{rules_of}
use Rattle.engine.proofs.Answered.{resting_met}
use Rattle.engine.proofs.session.meet.Goals as goal

pub invariant_of-one : goal.invariant_of-one
invariant_of-one g c =
    let own = c.one.inside in
    let held = c.one.invariant in
    record {
      resting = resting_met (rules_of g.J.LogNames.opening g.J.LogNames.most) own.parts.items own.seat own.pass c.meet.new.one c.other.inside.pass own.answers.items own.is_full held.resting c.meet.ensures.one;
      numbered = held.numbered;
    }

pub invariant_of-other : goal.invariant_of-other
invariant_of-other g c =
    let own = c.other.inside in
    let held = c.other.invariant in
    record {
      resting = resting_met (rules_of g.J.LogNames.opening g.J.LogNames.most) own.parts.items own.seat own.pass c.meet.new.other c.one.inside.pass own.answers.items own.is_full held.resting c.meet.ensures.other;
      numbered = held.numbered;
    }
