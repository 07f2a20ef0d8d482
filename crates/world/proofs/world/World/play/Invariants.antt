-- What was printed of the items so far is played, and its events came about.
use Rattle.std.proofs.Common.{◌≡◌, List, take}
use Rattle.history.specs.History.{Step}
use Rattle.history.specs.Schedules.{EndsQuiet, Plays}
use Rattle.world.specs.Worlds.{ComeAbout, IsAtRest}
use Rattle.world.proofs.world.World.play.Given as goal

abbrev pub invariant-loop-item : goal.invariant-loop-item
invariant-loop-item g l = record {
  played : (steps : List Step) × (Plays l.fn.self.placements.executors (take l.item-index l.schedule) l.outputs.items steps × ComeAbout steps l.fn.self l.self);
  rest : EndsQuiet l.outputs.items → IsAtRest l.self;
  executors : l.self.placements.executors ≡ l.fn.self.placements.executors;
}
