use Rattle.std.proofs.Common.{◌≡◌, Ok, ap, ◌∙◌}
use Rattle.requests.specs.Check.{check_of}
use Rattle.requests.specs.Script.{part}
use Rattle.commit_log.specs.PassView.{SessionSeatView}
use Rattle.engine.specs.Rules.{rules_of}
use Rattle.engine.specs.Interactive.{AskerView}
use Rattle.engine.proofs.Answered.{away_now}
use Rattle.engine.proofs.session.Asker.call.Goals as goal

pub invariant_of-away : goal.invariant_of-away
invariant_of-away g c =
    let own = c.self.inside in
    let held = c.self.invariant in
    let rules = rules_of g.J.LogNames.opening g.J.LogNames.most in
    let accepted : check_of rules.scale own.part.request ≡ Ok tt = ap (λ (a : AskerView). check_of rules.scale a.request) c.self.view_is ∙ c.requires.accepted in
    let not_full = ap (λ (a : AskerView). a.before.is_full) c.self.view_is ∙ c.requires.open in
    record {
      so_far = away_now rules own.parts.items own.seat c.ask.new.self own.pass own.answers.items own.is_full own.part held.before.resting not_full accepted c.ask.ensures.seat;
      numbered = held.before.numbered;
      number_is = ap (λ (s : SessionSeatView). s.asking.number) c.ask.ensures.seat ∙ held.number_is;
      asked_is = ap (λ (s : SessionSeatView). part s.asking.number s.asking.request) c.ask.ensures.seat;
      can_keep = held.can_keep;
      can_answer = held.can_answer;
    }

pub invariant_of-away-in-Err : goal.invariant_of-away-in-Err
invariant_of-away-in-Err g c =
    let own = c.self.inside in
    let held = c.self.invariant in
    let rules = rules_of g.J.LogNames.opening g.J.LogNames.most in
    let accepted : check_of rules.scale own.part.request ≡ Ok tt = ap (λ (a : AskerView). check_of rules.scale a.request) c.self.view_is ∙ c.requires.accepted in
    let not_full = ap (λ (a : AskerView). a.before.is_full) c.self.view_is ∙ c.requires.open in
    record {
      so_far = away_now rules own.parts.items own.seat c.ask.new.self own.pass own.answers.items own.is_full own.part held.before.resting not_full accepted c.ask.ensures.seat;
      numbered = held.before.numbered;
      number_is = ap (λ (s : SessionSeatView). s.asking.number) c.ask.ensures.seat ∙ held.number_is;
      asked_is = ap (λ (s : SessionSeatView). part s.asking.number s.asking.request) c.ask.ensures.seat;
      can_keep = held.can_keep;
      can_answer = held.can_answer;
    }
