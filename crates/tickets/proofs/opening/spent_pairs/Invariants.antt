use Rattle.std.proofs.Common.{◌≡◌, ◌≤◌, vec_len, vec_capacity}
use Rattle.tickets.specs.Boxes.{AreSpent}
use Rattle.tickets.proofs.opening.spent_pairs.Given as goal

-- so many pairs of spent seats are made, and the seats are as they were
abbrev pub invariant-loop : goal.invariant-loop
invariant-loop l = record {
  tickets : l.tickets ≡ l.fn.tickets;
  work : l.work ≡ l.fn.work;
  count : vec_len l.pairs ≡ l.counter;
  room : 8 ≤ vec_capacity l.pairs;
  spent : AreSpent l.fn.tickets.agreement.table l.fn.work.agreement.table l.pairs.items;
}
