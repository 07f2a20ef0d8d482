use Rattle.std.proofs.Common.{◌≡◌, List, ◌∷◌, [], ◌++◌, ap, subst, sym, ◌∙◌}
use Rattle.requests.specs.declared.script.Part.{Part}
use Rattle.commit_log.specs.PassView.{SessionSeatView}
use Rattle.executor.specs.Answers.{IsRecordedBy}
use Rattle.engine.specs.Rules.{rules_of}
use Rattle.engine.specs.Asking.{AskedView}
use Rattle.engine.proofs.Answered.{resting_recorded}
use Rattle.engine.proofs.Sessions.{numbered_more}
use Rattle.engine.proofs.session.Away.answered.Goals as goal

pub invariant_of-session : goal.invariant_of-session
invariant_of-session g c =
    let own = c.self.inside in
    let held = c.self.invariant in
    let seat_is = ap (λ (s : AskedView). s.seat) c.self.view_is in
    record {
      resting = resting_recorded (rules_of g.J.LogNames.opening g.J.LogNames.most) own.parts.items own.seat c.args.pass own.answers.items held.so_far (c.requires.session ∙ sym (ap (λ (s : SessionSeatView). s.session) seat_is))
          c.push_reserved.new.self.items c.push_reserved-2.new.self.items c.args.answer _
          (subst (λ (s : SessionSeatView). IsRecordedBy g.J.LogNames.most s.asking c.args.pass c.args.answer) (sym seat_is) c.requires.recorded)
          (c.push_reserved.ensures.items ∙ ap (λ (p : Part). own.parts.items ++ p ∷ []) (sym held.asked_is)) c.push_reserved-2.ensures.items c.says_full-is_full.ensures;
      numbered = numbered_more own.parts.items c.push_reserved.new.self.items own.part held.numbered
          (sym (ap (λ (p : Part). p.number) held.asked_is) ∙ held.number_is ∙ held.so_far.served.answered) c.push_reserved.ensures.items;
    }
