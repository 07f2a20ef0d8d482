use Rattle.std.proofs.Common.{◌≡◌, ap, subst, sym, ◌∙◌, arith, vec_capacity}
use Rattle.commit_log.specs.PassView.{SessionSeatView}
use Rattle.executor.specs.Answers.{IsRecordedBy}
use Rattle.engine.specs.Rules.{rules_of}
use Rattle.engine.specs.Asking.{AskedView}
use Rattle.engine.proofs.Asked.{ready_recorded}
use Rattle.engine.proofs.asking.Asked.answered.Goals as goal

pub invariant_of-result-2 : goal.invariant_of-result-2
invariant_of-result-2 g c =
    let own = c.self.inside in
    let pushed = c.push_reserved.ensures in
    let after = c.push_reserved.new.self in
    let seat_is : own.seat ≡ c.args.self.seat = ap (λ (s : AskedView). s.seat) c.self.view_is in
    ready_recorded (rules_of g.J.LogNames.opening g.J.LogNames.most) g.J.ServeNames.scripts own.script.now own.seat c.args.pass own.answers.items after.items (vec_capacity own.answers) (vec_capacity after) c.self.invariant
    (c.requires.session ∙ sym (ap (λ (s : SessionSeatView). s.session) seat_is)) c.args.answer _ c.says_full-is_full.ensures
    (subst (λ (s : SessionSeatView). IsRecordedBy g.J.LogNames.most s.asking c.args.pass c.args.answer) (sym seat_is) c.requires.recorded) pushed.items (omega (arith, pushed.capacity))
