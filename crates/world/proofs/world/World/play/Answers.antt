use Rattle.std.proofs.Common.{◌≡◌, ℕ, ◌∙◌, ◌+◌, ◌++◌, ◌∷◌, [], List, take, drop, ap, refl, sym, subst}
use Rattle.std.proofs.lemmas.List.{take-append-drop, take_more}
use Rattle.history.specs.declared.schedule.Scheduled.{Scheduled}
use Rattle.history.specs.declared.schedule.Output.{Output}
use Rattle.history.specs.History.{Step}
use Rattle.history.specs.Schedules.{Begins, Follows, Plays}
use Rattle.world.specs.Together.{together}
use Rattle.world.specs.Worlds.{ComeAbout}
use Rattle.world.proofs.Runs.{comes_after, no_events}
use Rattle.world.proofs.Schedules.{begins_after, begins_none, on_err, plays_more}
use Rattle.world.proofs.world.World.play.Goals as goal

pub returns-in_err-outputs-clause-err : goal.returns-in_err-outputs-clause-err
returns-in_err-outputs-clause-err g c =
    on_err c.from_residual.result ([], (begins_none c.args.self.now.placements.executors c.args.schedule.now, (refl, no_events (together c.args.self.now))))

pub returns-in_err-play_item-clause-err : goal.returns-in_err-play_item-clause-err
returns-in_err-play_item-clause-err g c =
    let i = c.loop-item.item-index in
    let schedule = c.args.schedule.now in
    let item = c.item-item.result in
    let one_more : take (i + 1) schedule ≡ take i schedule ++ item ∷ [] =
    take_more schedule i item c.loop-item-test.true ∙ ap (λ (s : Scheduled). take i schedule ++ s ∷ []) (sym c.item-item.is) in
    let n = c.args.self.now.placements.executors in
    let so_far = c.loop-item.invariant.played in
    let more : (steps : List Step) × (Begins n (item ∷ []) steps × ComeAbout steps c.loop-item.self c.play_item.new.self) =
    subst (λ (r : ℕ). (steps : List Step) × (Begins r (item ∷ []) steps × ComeAbout steps c.loop-item.self c.play_item.new.self)) c.loop-item.invariant.executors c.in_err-play_item.ensures.err in
    let whole : (take i schedule ++ item ∷ []) ++ drop (i + 1) schedule ≡ schedule =
    ap (λ (some : List Scheduled). some ++ drop (i + 1) schedule) (sym one_more) ∙ take-append-drop (i + 1) schedule in
    on_err c.from_residual-in_err-play_item.result (
      so_far.0 ++ more.0,
      (
        subst (λ (some : List Scheduled). Begins n some (so_far.0 ++ more.0)) whole
            (begins_after n (take i schedule) item (drop (i + 1) schedule) c.loop-item.outputs.items so_far.0 more.0 so_far.1.0 more.1.0),
        comes_after so_far.0 more.0 c.args.self.now c.loop-item.self c.play_item.new.self so_far.1.1 more.1.1,
      ),
    )

pub loop-item-preserved : goal.loop-item-preserved
loop-item-preserved g c =
    let i = c.loop-item.item-index in
    let schedule = c.args.schedule.now in
    let item = c.item-item.result in
    let one_more : take (i + 1) schedule ≡ take i schedule ++ item ∷ [] =
    take_more schedule i item c.loop-item-test.true ∙ ap (λ (s : Scheduled). take i schedule ++ s ∷ []) (sym c.item-item.is) in
    let n = c.args.self.now.placements.executors in
    let so_far = c.loop-item.invariant.played in
    let more : (more : List Output) × ((steps : List Step)
    × ((c.play_item.new.outputs.items ≡ c.loop-item.outputs.items ++ more) × (Follows n item more steps × ComeAbout steps c.loop-item.self c.play_item.new.self))) =
    subst (λ (r : ℕ). (more : List Output) × ((steps : List Step)
    × ((c.play_item.new.outputs.items ≡ c.loop-item.outputs.items ++ more) × (Follows r item more steps × ComeAbout steps c.loop-item.self c.play_item.new.self)))) c.loop-item.invariant.executors
    c.in_ok-play_item.ensures.follows in
    let added = more.0 in
    let steps = more.1.0 in
    let played : Plays n (take i schedule ++ item ∷ []) (c.loop-item.outputs.items ++ added) (so_far.0 ++ steps) =
    plays_more n (take i schedule) item c.loop-item.outputs.items added so_far.0 steps so_far.1.0 more.1.1.1.0 in
    record {
      played = (
        so_far.0 ++ steps,
        (
          subst (λ (recorded : List Output). Plays n (take (i + 1) schedule) recorded (so_far.0 ++ steps)) (sym more.1.1.0)
              (subst (λ (some : List Scheduled). Plays n some (c.loop-item.outputs.items ++ added) (so_far.0 ++ steps)) (sym one_more) played),
          comes_after so_far.0 steps c.args.self.now c.loop-item.self c.play_item.new.self so_far.1.1 more.1.1.1.1,
        ),
      );
      rest = c.in_ok-play_item.ensures.rest;
      executors = c.play_item.ensures.same ∙ c.loop-item.invariant.executors;
    }
