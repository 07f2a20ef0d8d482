use Rattle.std.proofs.Common.{◌≡◌, ◌++◌}
use Rattle.std.specs.Prelude.{replicate}
use Rattle.workload.proofs.mix.add_cards.Given as goal

abbrev pub invariant-loop : goal.invariant-loop
invariant-loop l = l.cards.items ≡ l.initial.cards.items ++ replicate l.counter l.kind
