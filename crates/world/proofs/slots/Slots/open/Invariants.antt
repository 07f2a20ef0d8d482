use Rattle.std.proofs.Common.{◌≡◌, ◌≤◌, None, vec_len, vec_capacity, replicate}
use Rattle.world.specs.declared.slots.TheConstants.{MOST_ACTIVE}
use Rattle.world.proofs.slots.Slots.open.Given as goal

-- so many slots are free, and there is room for all
abbrev pub invariant-loop : goal.invariant-loop
invariant-loop g l = record {
  slots : l.slots.items ≡ replicate l.counter None;
  count : vec_len l.slots ≡ l.counter;
  room : MOST_ACTIVE ≤ vec_capacity l.slots;
}
