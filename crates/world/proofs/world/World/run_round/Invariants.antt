-- The turns so far; what was printed of them, and what came about; and whether nothing could happen.
use Rattle.std.proofs.Common.{◌≡◌, ◌≤◌, ◌+◌, ◌-◌, ◌*◌, ◌++◌, List, length}
use Rattle.std.specs.Prelude.{IsTrue, vec_capacity}
use Rattle.history.specs.Schedules.{Turn, steps_of_round, outputs_of_round}
use Rattle.world.specs.Worlds.{ComeAbout, IsIdleExactly}
use Rattle.world.proofs.Schedules.{RestSoFar}
use Rattle.world.proofs.world.World.run_round.Given as goal

abbrev pub invariant-loop-executor : goal.invariant-loop-executor
invariant-loop-executor g l = record {
  turns : (turns : List Turn) × ((length turns ≡ l.executor)
      × ((l.outputs.items ≡ l.fn.outputs.items ++ outputs_of_round turns) × (ComeAbout (steps_of_round turns) l.fn.self l.self × IsIdleExactly l.is_idle turns)));
  rest : IsTrue l.is_idle → RestSoFar l.executor l.fn.self l.self;
  executors : l.self.placements.executors ≡ l.fn.self.placements.executors;
  room : length l.outputs.items + 2 * (l.executors - l.executor) ≤ vec_capacity l.outputs;
}
