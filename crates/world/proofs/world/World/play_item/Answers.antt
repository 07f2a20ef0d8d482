use Rattle.std.proofs.Common.{List, OnErr, [], ◌∷◌, refl, sym, subst}
use Rattle.history.specs.History.{Step, step}
use Rattle.history.specs.Schedules.{Begins, Follows}
use Rattle.history.specs.declared.schedule.Scheduled.TheVariants as scheduled
use Rattle.history.specs.declared.schedule.Output.TheVariants as output
use Rattle.world.specs.Worlds.{ComeAbout}
use Rattle.world.proofs.Runs.{event_comes}
use Rattle.world.proofs.Schedules.{begins_all, on_err}
use Rattle.world.proofs.world.World.play_item.Goals as goal

pub returns-in_err-push-in-Event-clause-err : goal.returns-in_err-push-in-Event-clause-err
returns-in_err-push-in-Event-clause-err g c =
    let event = c.in-Event.event in
    let answer = c.step-answer.result in
    let steps = step event answer ∷ [] in
    on_err c.from_residual.result (
      steps,
      (
        subst (λ item. Begins c.args.self.now.placements.executors (item ∷ []) steps) (sym c.in-Event.is) (begins_all c.args.self.now.placements.executors (scheduled.Event event) (output.Event answer ∷ []) steps (answer, (refl, refl))),
        event_comes (step event answer) c.args.self.now c.step-answer.new.self (record {
          advances = c.step-answer.ensures.advances;
          happens = c.step-answer.ensures.happens;
          changes = c.step-answer.ensures.changes;
          nothing = c.step-answer.ensures.nothing;
          busy = c.step-answer.ensures.busy;
          full = c.step-answer.ensures.full;
          asked = c.step-answer.ensures.asked;
          died = c.step-answer.ensures.died;
          dies = c.step-answer.ensures.dies;
          executors = c.step-answer.ensures.executors;
          owned = c.step-answer.ensures.owned;
          never_stuck = c.step-answer.ensures.never_stuck;
          alone = c.step-answer.ensures.alone;
        }),
      ),
    )

pub returns-in_ok-push-in-Event-clause-follows : goal.returns-in_ok-push-in-Event-clause-follows
returns-in_ok-push-in-Event-clause-follows g c =
    let event = c.in-Event.event in
    let answer = c.step-answer.result in
    let added = output.Event answer ∷ [] in
    let steps = step event answer ∷ [] in (
      added,
      (
        steps,
        (
          c.in_ok-push-in-Event.ensures.items,
          (
            subst (λ item. Follows c.args.self.now.placements.executors item added steps) (sym c.in-Event.is) (answer, (refl, refl)),
            event_comes (step event answer) c.args.self.now c.step-answer.new.self (record {
              advances = c.step-answer.ensures.advances;
              happens = c.step-answer.ensures.happens;
              changes = c.step-answer.ensures.changes;
              nothing = c.step-answer.ensures.nothing;
              busy = c.step-answer.ensures.busy;
              full = c.step-answer.ensures.full;
              asked = c.step-answer.ensures.asked;
              died = c.step-answer.ensures.died;
              dies = c.step-answer.ensures.dies;
              executors = c.step-answer.ensures.executors;
              owned = c.step-answer.ensures.owned;
              never_stuck = c.step-answer.ensures.never_stuck;
              alone = c.step-answer.ensures.alone;
            }),
          ),
        ),
      ),
    )

pub returns-in-Rounds-clause-err : goal.returns-in-Rounds-clause-err
returns-in-Rounds-clause-err g c =
    subst (λ item. OnErr c.run_rounds.result ((steps : List Step) × (Begins c.args.self.now.placements.executors (item ∷ []) steps × ComeAbout steps c.args.self.now c.run_rounds.new.self))) (sym c.in-Rounds.is)
    c.run_rounds.ensures.err
