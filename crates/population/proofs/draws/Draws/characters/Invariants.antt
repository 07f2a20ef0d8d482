use Rattle.std.proofs.Common.{◌≡◌, ℕ, Bool, true, take, length}
use Rattle.std.specs.List.{list_all}
use Rattle.population.proofs.draws.Draws.characters.Given as goal

abbrev pub invariant-loop-place : goal.invariant-loop-place
invariant-loop-place g l = record {
  wide : length l.bytes ≡ g.row.WIDTH;
  each : (kind : ℕ → Bool) → list_all kind l.alphabet ≡ true → list_all kind (take l.place l.bytes) ≡ true;
}
