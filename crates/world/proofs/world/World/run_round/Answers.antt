use Rattle.std.proofs.Common.{◌≡◌, ◌∙◌, ◌++◌, ◌∷◌, [], ap, arith, refl, sym, subst, append-nil, length, length-append}
use Rattle.std.proofs.lemmas.List.Elements.{All-nil}
use Rattle.partitions.specs.Parts.{shared_of}
use Rattle.history.specs.declared.event.Event.TheVariants.{Take, Send}
use Rattle.history.specs.History.{step}
use Rattle.history.specs.Schedules.{IsIdleTurn, Turn, outputs_in_round}
use Rattle.world.specs.declared.world.Core.{Core}
use Rattle.world.specs.Together.{IsSound, together}
use Rattle.world.proofs.Runs.{event_comes, no_events}
use Rattle.world.proofs.Schedules.{few_outputs, idle_before, idle_more, outputs_turned, rest_more, round_rests, turn_comes}
use Rattle.world.proofs.world.World.run_round.Goals as goal

pub loop-executor-init : goal.loop-executor-init
loop-executor-init g c =
    let self = c.args.self.now in
    let many : c.executors-executors.result ≡ self.placements.executors = c.executors-executors.ensures ∙ ap (λ (w : Core g.row.J.Denot). w.placements.executors) c.self.view_is in
    record {
      turns = ([], (refl, (sym (append-nil c.args.outputs.now.items), ((refl, no_events (together self)), (λ is. All-nil IsIdleTurn, λ idle. refl)))));
      rest = λ is. record { same = refl; inboxes = λ place below. absurd (omega (arith, below)); outboxes = λ place below. absurd (omega (arith, below)) };
      executors = refl;
      room = omega (arith, c.requires.room, many);
    }

pub loop-executor-preserved : goal.loop-executor-preserved
loop-executor-preserved g c =
    let l = c.loop-executor in
    let inv = l.invariant in
    let turns = inv.turns.0 in
    let exactly = inv.turns.1.1.1.1 in
    let t : Turn = record { took = c.step-took.result; sent = c.step-sent.result } in
    let mid = c.step-took.new.self in
    let new = c.step-sent.new.self in
    record {
      turns = (
        turns ++ t ∷ [],
        (
          omega (arith, length-append turns (t ∷ []), inv.turns.1.0),
          (
            outputs_turned turns t c.args.outputs.now.items l.outputs.items c.add_output.new.outputs.items c.add_output-in-loop-executor.new.outputs.items inv.turns.1.1.0 c.add_output.ensures.added c.add_output-in-loop-executor.ensures.added,
            (
              turn_comes turns l.executor t c.args.self.now l.self mid new inv.turns.1.0 inv.turns.1.1.1.0
                  (event_comes (step (Take l.executor) t.took) l.self mid (record {
                    advances = c.step-took.ensures.advances;
                    happens = c.step-took.ensures.happens;
                    changes = c.step-took.ensures.changes;
                    nothing = c.step-took.ensures.nothing;
                    busy = c.step-took.ensures.busy;
                    full = c.step-took.ensures.full;
                    asked = c.step-took.ensures.asked;
                    died = c.step-took.ensures.died;
                    dies = c.step-took.ensures.dies;
                    executors = c.step-took.ensures.executors;
                    owned = c.step-took.ensures.owned;
                    never_stuck = c.step-took.ensures.never_stuck;
                    alone = c.step-took.ensures.alone;
                  }))
                  (event_comes (step (Send l.executor) t.sent) mid new (record {
                    advances = c.step-sent.ensures.advances;
                    happens = c.step-sent.ensures.happens;
                    changes = c.step-sent.ensures.changes;
                    nothing = c.step-sent.ensures.nothing;
                    busy = c.step-sent.ensures.busy;
                    full = c.step-sent.ensures.full;
                    asked = c.step-sent.ensures.asked;
                    died = c.step-sent.ensures.died;
                    dies = c.step-sent.ensures.dies;
                    executors = c.step-sent.ensures.executors;
                    owned = c.step-sent.ensures.owned;
                    never_stuck = c.step-sent.ensures.never_stuck;
                    alone = c.step-sent.ensures.alone;
                  })),
              (
                λ is. let both = c.stays_idle-is_idle.ensures.0 is in idle_more turns t (exactly.0 both.0) both.1,
                λ idle. let both = idle_before turns t idle in c.stays_idle-is_idle.ensures.1 (exactly.1 both.0, both.1),
              ),
            ),
          ),
        ),
      );
      rest = λ is.
          let both = c.stays_idle-is_idle.ensures.0 is in
          rest_more l.executor t c.args.self.now l.self mid new (inv.rest both.0) both.1 c.step-took.ensures.happens c.step-sent.ensures.happens;
      executors = c.step-sent.ensures.executors ∙ c.step-took.ensures.executors ∙ inv.executors;
      room = omega (
        arith,
        inv.room,
        c.loop-executor-test.true,
        c.add_output.ensures.room,
        c.add_output-in-loop-executor.ensures.room,
        ap length c.add_output.ensures.added,
        ap length c.add_output-in-loop-executor.ensures.added,
        length-append l.outputs.items (outputs_in_round t.took),
        length-append c.add_output.new.outputs.items (outputs_in_round t.sent),
        few_outputs t.took,
        few_outputs t.sent,
      );
    }

pub returns-clause-rest : goal.returns-clause-rest
returns-clause-rest g c is =
    let l = c.loop-executor in
    let many : c.executors-executors.result ≡ c.args.self.now.placements.executors = c.executors-executors.ensures ∙ ap (λ (w : Core g.row.J.Denot). w.placements.executors) c.self.view_is in
    let sound : IsSound (shared_of g.J.LogNames.opening) c.args.self.now = subst (λ (w : Core g.row.J.Denot). IsSound (shared_of g.J.LogNames.opening) w) c.self.view_is c.self.invariant.0 in
    round_rests (shared_of g.J.LogNames.opening) l.executor c.args.self.now l.self sound (omega (arith, c.loop-executor-test.false, l.auto.executor-end, many)) (l.invariant.rest is)
