-- In each round so far something happened; what was printed of them, and what came about.
use Rattle.std.proofs.Common.{◌≡◌, ◌++◌, List}
use Rattle.std.specs.List.{flat_map}
use Rattle.history.specs.Schedules.{Round, steps_of_round, outputs_of_round}
use Rattle.world.specs.Worlds.{ComeAbout}
use Rattle.world.proofs.Schedules.{AreRounds}
use Rattle.world.proofs.world.World.run_rounds.Given as goal

abbrev pub invariant-loop : goal.invariant-loop
invariant-loop g l = record {
  rounds : (rounds : List Round) × (AreRounds l.fn.self.placements.executors rounds l.counter
      × ((l.outputs.items ≡ l.fn.outputs.items ++ flat_map outputs_of_round rounds) × ComeAbout (flat_map steps_of_round rounds) l.fn.self l.self));
  executors : l.self.placements.executors ≡ l.fn.self.placements.executors;
}
