use Rattle.std.proofs.Common.{subst, sym, ◌∙◌}
use Rattle.engine.specs.Rules.{rules_of}
use Rattle.engine.specs.Asking.{known_of}
use Rattle.engine.specs.Interactive.{AskerView}
use Rattle.engine.specs.Outcome.{IsRefusal}
use Rattle.engine.proofs.Answered.{resting_refused}
use Rattle.engine.proofs.Sessions.{numbered_more}
use Rattle.engine.proofs.session.Asker.refused.Goals as goal

pub invariant_of-session : goal.invariant_of-session
invariant_of-session g c =
    let own = c.self.inside in
    let held = c.self.invariant in
    let rules = rules_of g.J.LogNames.opening g.J.LogNames.most in
    let rightly = subst (λ (a : AskerView). IsRefusal rules (known_of a.before.is_full a.before.pass.reached) a.request c.args.refusal) (sym c.self.view_is) c.requires in
    record {
      resting = resting_refused rules own.parts.items own.seat own.pass own.answers.items own.is_full own.part c.args.refusal held.before.resting rightly
          c.push_reserved.new.self.items c.push_reserved-2.new.self.items c.push_reserved.ensures.items c.push_reserved-2.ensures.items;
      numbered = numbered_more own.parts.items c.push_reserved.new.self.items own.part held.before.numbered (held.number_is ∙ held.before.resting.served.answered) c.push_reserved.ensures.items;
    }
