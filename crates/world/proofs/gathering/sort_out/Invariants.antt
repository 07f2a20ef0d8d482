use Rattle.std.proofs.Common.{◌≡◌, ◌≤◌, ◌+◌, ◌++◌, length, vec_capacity, None}
use Rattle.transactions.specs.declared.laws.TheConstants.{MOST_ACTIONS}
use Rattle.world.specs.Following.{found_in, held_in, refusal_of}
use Rattle.world.proofs.gathering.sort_out.Given as goal

-- What is held, with what those hold that are left, is what all hold; so are the refusal and what was found; and there is room
-- for those that are left.
abbrev pub invariant-loop-report : goal.invariant-loop-report
invariant-loop-report g l = record {
  flow : l.flow ≡ record l.initial.flow { transaction = record l.initial.flow.transaction { held = l.flow.transaction.held } };
  held : l.flow.transaction.held ++ held_in l.results ≡ l.initial.flow.transaction.held ++ held_in l.initial.results;
  room : length l.flow.transaction.held + length l.results ≤ MOST_ACTIONS;
  refusal : refusal_of l.sorted.refusal l.results ≡ refusal_of l.initial.sorted.refusal l.initial.results;
  found : l.sorted.refusal ≡ None → l.sorted.found.items ++ found_in l.results ≡ l.initial.sorted.found.items ++ found_in l.initial.results;
  found_room : l.sorted.refusal ≡ None → length l.sorted.found.items + length l.results ≤ vec_capacity l.sorted.found;
}

abbrev pub decreases-loop-report : goal.decreases-loop-report
decreases-loop-report g l = length l.results
