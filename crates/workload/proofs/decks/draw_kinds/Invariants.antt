use Rattle.std.proofs.Common.{◌≡◌, ◌-◌, ◌++◌, length}
use Rattle.workload.specs.Decks.{decks_drawn}
use Rattle.workload.proofs.decks.draw_kinds.Given as goal

-- what is dealt, with the decks that are left, makes all decks
abbrev pub invariant-loop : goal.invariant-loop
invariant-loop l = record {
  dealt : l.kinds.items ++ decks_drawn (l.decks - l.counter) l.cards l.draws ≡ decks_drawn l.decks l.initial.cards l.initial.draws;
  size : length l.cards ≡ length l.initial.cards;
}
