use Rattle.std.proofs.Common.{◌≡◌, ◌≤◌, [], vec_len, vec_capacity, replicate}
use Rattle.world.proofs.queues.Queues.open.Given as goal

-- so many queues are empty, and there is room for all
abbrev pub invariant-loop : goal.invariant-loop
invariant-loop g l = record {
  queues : l.queues.items ≡ replicate l.counter [];
  count : vec_len l.queues ≡ l.counter;
  room : l.fn.executors ≤ vec_capacity l.queues;
}
