use Rattle.std.proofs.Common.{◌≡◌, ◌<◌, ◌≤◌, ℕ, ◌+◌, length}
use Rattle.std.specs.Prelude.{slice_index_or}
use Rattle.routing.specs.Routes.{executor_of}
use Rattle.range_moves.specs.Placements.{at_home, no_placement}
use Rattle.range_moves.proofs.placements.Placements.open.Given as goal

abbrev pub invariant-loop-before : goal.invariant-loop-before
invariant-loop-before l = record {
  many : length l.placements.items ≡ l.before;
  within : l.before ≤ l.scale.warehouses;
  each : (k : ℕ) → k < length l.placements.items → slice_index_or l.placements.items k no_placement ≡ at_home (executor_of l.routing (k + 1));
  there : (k : ℕ) → k < length l.placements.items → executor_of l.routing (k + 1) < l.routing.executors;
}
