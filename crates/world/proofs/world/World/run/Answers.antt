use Rattle.std.proofs.Common.{refl, ◌≡◌, ◌+◌, ◌<◌, List, [], ◌∷◌, ◌++◌, take, length, sym, ap, ◌∙◌, subst, arith, length-append}
use Rattle.std.proofs.lemmas.List.{take_more, take_all}
use Rattle.std.proofs.Math.ListN.{length-take}
use Rattle.history.specs.declared.event.Event.{Event}
use Rattle.history.specs.declared.event.EventAnswer.{EventAnswer}
use Rattle.history.specs.History.{Step, step}
use Rattle.world.specs.Together.{together}
use Rattle.world.specs.Worlds.{Advances, HappenInTurn, steps_of}
use Rattle.world.proofs.Runs.{steps_of-push, happen_after, happens_once, one_after_another, no_events}
use Rattle.world.proofs.world.World.run.Goals as goal

pub loop-event-init : goal.loop-event-init
loop-event-init g c = record {
  count = ap (λ (l : List EventAnswer). length l) c.in_ok-answers.ensures.items;
  filled = c.in_ok-answers.ensures.len;
  room = c.in_ok-answers.ensures.capacity;
  happen = refl;
  advances = no_events (together c.args.self.now);
}

pub push_reserved-requires : goal.push_reserved-requires
push_reserved-requires g c = omega (arith, c.loop-event.invariant.filled, c.loop-event.invariant.room, c.loop-event-test.true)

pub loop-event-preserved : goal.loop-event-preserved
loop-event-preserved g c =
    let i = c.loop-event.event-index in
    let events = c.args.events.now in
    let event = c.event-item.result in
    let answer = c.step-answer.result in
    let answers = c.loop-event.answers.items in
    let below : i < length events = c.loop-event-test.true in
    let same : length (take i events) ≡ length answers = omega (arith, length-take i events, below, c.loop-event.invariant.count) in
    let more : take (i + 1) events ≡ take i events ++ event ∷ [] = take_more events i event below ∙ ap (λ (e : Event). take i events ++ e ∷ []) (sym c.event-item.is) in
    let steps : steps_of (take (i + 1) events) c.push_reserved.new.self.items ≡ steps_of (take i events) answers ++ step event answer ∷ [] =
    ap (λ (es : List Event). steps_of es c.push_reserved.new.self.items) more
    ∙ ap (λ (ans : List EventAnswer). steps_of (take i events ++ event ∷ []) ans) c.push_reserved.ensures.items
    ∙ steps_of-push (take i events) answers event answer same in
    record {
      count = ap (λ (ans : List EventAnswer). length ans) c.push_reserved.ensures.items ∙ omega (arith, length-append answers (answer ∷ []), c.loop-event.invariant.count);
      filled = omega (arith, c.push_reserved.ensures.len, c.loop-event.invariant.filled);
      room = omega (arith, c.push_reserved.ensures.capacity, c.loop-event.invariant.room);
      happen = subst (λ (ss : List Step). HappenInTurn ss c.args.self.now c.step-answer.new.self) (sym steps)
          (happen_after (steps_of (take i events) answers) (step event answer ∷ []) c.args.self.now c.loop-event.self c.step-answer.new.self c.loop-event.invariant.happen
          (happens_once (step event answer) c.loop-event.self c.step-answer.new.self (record {
            advances = c.step-answer.ensures.advances;
            happens = c.step-answer.ensures.happens;
            changes = c.step-answer.ensures.changes;
            nothing = c.step-answer.ensures.nothing;
            busy = c.step-answer.ensures.busy;
            full = c.step-answer.ensures.full;
            asked = c.step-answer.ensures.asked;
            died = c.step-answer.ensures.died;
            dies = c.step-answer.ensures.dies;
            executors = c.step-answer.ensures.executors;
            owned = c.step-answer.ensures.owned;
            never_stuck = c.step-answer.ensures.never_stuck;
            alone = c.step-answer.ensures.alone;
          })));
      advances = subst (λ (ss : List Step). Advances (together c.args.self.now) ss (together c.step-answer.new.self)) (sym steps)
          (one_after_another (together c.args.self.now) (together c.loop-event.self) (together c.step-answer.new.self) (steps_of (take i events) answers) (step event answer ∷ []) c.loop-event.invariant.advances c.step-answer.ensures.advances);
    }

pub returns-clause-advances : goal.returns-clause-advances
returns-clause-advances g c =
    let all : take c.loop-event.event-index c.args.events.now ≡ c.args.events.now = take_all c.loop-event.event-index c.args.events.now c.loop-event-test.false in
    subst (λ (es : List Event). Advances (together c.args.self.now) (steps_of es c.loop-event.answers.items) (together c.loop-event.self)) all c.loop-event.invariant.advances

pub returns-clause-count : goal.returns-clause-count
returns-clause-count g c = omega (arith, c.loop-event.invariant.count, c.loop-event-test.false, c.loop-event.auto.event-index-end)

pub returns-clause-happen : goal.returns-clause-happen
returns-clause-happen g c =
    let all : take c.loop-event.event-index c.args.events.now ≡ c.args.events.now = take_all c.loop-event.event-index c.args.events.now c.loop-event-test.false in
    subst (λ (es : List Event). HappenInTurn (steps_of es c.loop-event.answers.items) c.args.self.now c.loop-event.self) all c.loop-event.invariant.happen
