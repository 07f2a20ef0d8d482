use Rattle.std.proofs.Common.{ℕ, [], List, sym, subst}
use Rattle.commit_log.specs.declared.entry.Entry.{Entry}
use Rattle.history.specs.Schedules.{Plays}
use Rattle.world.specs.Openings.{IsGathered}
use Rattle.world.specs.Worlds.{count_busy, tables_now}
use Rattle.world.proofs.simulating.simulate_in.Goals as goal

pub returns-clause-simulates : goal.returns-clause-simulates
returns-clause-simulates g c = λ opening setup new fits.
    let played = c.in_ok-outputs.ensures.plays in
    let last = c.play.new.self in
    let after = played.1.1.1 opening [] fits in
    let log = c.close-log.ensures.log in
    record {
      first = c.args.world;
      last = last;
      steps = played.0;
      new = new;
      begins = fits;
      plays = subst (λ (n : ℕ). Plays n c.args.schedule.now c.in_ok-outputs.outputs.items played.0) new.placements.executors played.1.0;
      happen = played.1.1.0;
      fits = after;
      never_stuck = c.close-log.ensures.never_stuck;
      log = log;
      tables = subst (λ (l : List Entry). IsGathered (count_busy last) (tables_now opening l) c.close-log.result.1) (sym log)
          (c.close-log.ensures.tables opening played.0 after);
    }
