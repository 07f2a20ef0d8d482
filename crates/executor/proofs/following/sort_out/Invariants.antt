-- What is held, with what those hold that are left, is what all hold; so are the refusal and what was found; and there is room for
-- those that are left.
use Rattle.std.proofs.Common.{◌≡◌, ◌≤◌, ◌+◌, ◌++◌, length, vec_capacity, None}
use Rattle.transactions.specs.declared.laws.TheConstants.{MOST_ACTIONS}
use Rattle.transactions.specs.SortedOut.{found_in, held_in, refusal_of}
use Rattle.executor.specs.Phases.{rans_said}
use Rattle.executor.proofs.following.sort_out.Given as goal

abbrev pub invariant-loop-said : goal.invariant-loop-said
invariant-loop-said g l = record {
  slot : l.rest.slot ≡ l.initial.rest.slot;
  held : l.held ++ held_in (rans_said l.rest.items) ≡ l.initial.held ++ held_in (rans_said l.initial.rest.items);
  room : length l.held + length (rans_said l.rest.items) ≤ MOST_ACTIONS;
  refusal : refusal_of l.sorted.refusal (rans_said l.rest.items) ≡ refusal_of l.initial.sorted.refusal (rans_said l.initial.rest.items);
  found : l.sorted.refusal ≡ None → l.sorted.found.items ++ found_in (rans_said l.rest.items) ≡ l.initial.sorted.found.items ++ found_in (rans_said l.initial.rest.items);
  found_room : l.sorted.refusal ≡ None → length l.sorted.found.items + length (rans_said l.rest.items) ≤ vec_capacity l.sorted.found;
}

abbrev pub decreases-loop-said : goal.decreases-loop-said
decreases-loop-said g l = length l.rest.items
