use Rattle.std.proofs.Common.{◌≡◌, ◌-◌, length}
use Rattle.std.specs.List.Sorted.{IsPermutation}
use Rattle.number_draws.specs.Words.{beyond}
use Rattle.number_draws.specs.Draws.{shuffled}
use Rattle.number_draws.proofs.draws.NumberDraws.shuffle.Given as goal

-- what is left to exchange makes the whole shuffle
abbrev pub invariant-loop-last : goal.invariant-loop-last
invariant-loop-last g l = record {
  value : shuffled (l.last - 1) l.items l.self ≡ shuffled (length l.initial.items - 1) l.initial.items l.initial.self;
  generator : beyond (l.last - 1) l.self ≡ beyond (length l.initial.items - 1) l.initial.self;
  permutation : IsPermutation l.initial.items l.items;
  count : length l.items ≡ length l.initial.items;
}
