use Rattle.std.proofs.Common.{◌∙◌, ◌++◌, ◌∷◌, [], List, ap, arith, refl, sym, append-nil}
use Rattle.std.specs.List.{flat_map}
use Rattle.std.proofs.lemmas.List.Elements.{All-nil}
use Rattle.history.specs.declared.schedule.Scheduled.TheVariants as scheduled
use Rattle.history.specs.declared.schedule.Output.TheVariants as output
use Rattle.history.specs.declared.schedule.Output.{Output}
use Rattle.history.specs.Schedules.{IsBusy, IsIdle, IsRoundOf, steps_of_round, outputs_of_round}
use Rattle.world.specs.Together.{together}
use Rattle.world.proofs.Schedules.{begins_all, begins_rounds, end_quiet, on_err, round_comes, round_more, outputs_more, outputs_quiet}
use Rattle.world.proofs.Runs.{no_events}
use Rattle.world.proofs.world.World.run_rounds.Goals as goal

pub loop-init : goal.loop-init
loop-init g c =
    let self = c.args.self.now in
    record {
      rounds = ([], (record { busy = All-nil IsBusy; turns = All-nil (IsRoundOf self.placements.executors); many = refl }, (sym (append-nil c.args.outputs.now.items), (refl, no_events (together self)))));
      executors = refl;
    }

pub returns-in_err-reserve-clause-err : goal.returns-in_err-reserve-clause-err
returns-in_err-reserve-clause-err g c =
    let n = c.args.self.now.placements.executors in
    let inv = c.loop.invariant in
    let rounds = inv.rounds.0 in
    let are = inv.rounds.1.0 in
    let came = inv.rounds.1.1.1 in
    on_err c.from_residual.result (flat_map steps_of_round rounds, (begins_rounds n rounds c.loop.counter are (omega (arith, c.loop-test.true)), came))

pub returns-in_err-push-clause-err : goal.returns-in_err-push-clause-err
returns-in_err-push-clause-err g c =
    let n = c.args.self.now.placements.executors in
    let inv = c.loop.invariant in
    let rounds = inv.rounds.0 in
    let are = inv.rounds.1.0 in
    let came = inv.rounds.1.1.1 in
    let said = c.run_round.ensures.round in
    let r = said.0 in
    let of : IsRoundOf n r = said.1.0 ∙ inv.executors in
    let more = said.1.1.0 ∙ ap (λ (l : List Output). l ++ outputs_of_round r) c.in_ok-reserve.ensures.items in
    let comes = round_comes rounds r c.args.self.now c.loop.self c.run_round.new.self came said.1.1.1.0 in
    let idle : IsIdle r = said.1.1.1.1.0 c.if-run_round.true in
    let all = rounds ++ r ∷ [] in
    on_err c.from_residual-in_err-push.result (
      flat_map steps_of_round all,
      (
        begins_all n scheduled.Rounds (flat_map outputs_of_round all ++ output.Quiet ∷ []) (flat_map steps_of_round all)
            (all, (output.Quiet, (refl, (refl, end_quiet n rounds c.loop.counter r are of c.loop-test.true idle)))),
        comes,
      ),
    )

pub returns-then-run_round-clause-follows : goal.returns-then-run_round-clause-follows
returns-then-run_round-clause-follows g c =
    let n = c.args.self.now.placements.executors in
    let inv = c.loop.invariant in
    let rounds = inv.rounds.0 in
    let are = inv.rounds.1.0 in
    let came = inv.rounds.1.1.1 in
    let said = c.run_round.ensures.round in
    let r = said.0 in
    let of : IsRoundOf n r = said.1.0 ∙ inv.executors in
    let more = said.1.1.0 ∙ ap (λ (l : List Output). l ++ outputs_of_round r) c.in_ok-reserve.ensures.items in
    let comes = round_comes rounds r c.args.self.now c.loop.self c.run_round.new.self came said.1.1.1.0 in
    let idle : IsIdle r = said.1.1.1.1.0 c.if-run_round.true in
    let all = rounds ++ r ∷ [] in (
      flat_map outputs_of_round all ++ output.Quiet ∷ [],
      (
        flat_map steps_of_round all,
        (
          outputs_quiet rounds r c.args.outputs.now.items c.loop.outputs.items c.run_round.new.outputs.items c.push.new.self.items inv.rounds.1.1.0 more c.in_ok-push.ensures.items,
          ((all, (output.Quiet, (refl, (refl, end_quiet n rounds c.loop.counter r are of c.loop-test.true idle)))), comes),
        ),
      ),
    )

pub loop-preserved : goal.loop-preserved
loop-preserved g c =
    let n = c.args.self.now.placements.executors in
    let inv = c.loop.invariant in
    let rounds = inv.rounds.0 in
    let are = inv.rounds.1.0 in
    let came = inv.rounds.1.1.1 in
    let said = c.run_round.ensures.round in
    let r = said.0 in
    let of : IsRoundOf n r = said.1.0 ∙ inv.executors in
    let more = said.1.1.0 ∙ ap (λ (l : List Output). l ++ outputs_of_round r) c.in_ok-reserve.ensures.items in
    let comes = round_comes rounds r c.args.self.now c.loop.self c.run_round.new.self came said.1.1.1.0 in
    let busy : IsBusy r = λ idle. (let is = said.1.1.1.1.1 idle in let isnt = c.if-run_round.false in cc) in
    record {
      rounds = (
        rounds ++ r ∷ [],
        (
          round_more n rounds c.loop.counter r are of busy,
          (outputs_more rounds r c.args.outputs.now.items c.loop.outputs.items c.run_round.new.outputs.items inv.rounds.1.1.0 more, comes),
        ),
      );
      executors = c.run_round.ensures.same ∙ inv.executors;
    }

pub returns-in_err-push-2-clause-err : goal.returns-in_err-push-2-clause-err
returns-in_err-push-2-clause-err g c =
    let n = c.args.self.now.placements.executors in
    let inv = c.loop.invariant in
    let rounds = inv.rounds.0 in
    let are = inv.rounds.1.0 in
    let came = inv.rounds.1.1.1 in
    on_err c.from_residual-in_err-push-2.result (flat_map steps_of_round rounds, (begins_rounds n rounds c.loop.counter are (omega (arith, c.loop.auto.counter-end)), came))
