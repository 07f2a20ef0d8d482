use Rattle.std.proofs.Common.{◌≡◌, ◌-◌, ◌≤◌, length, map, take, vec_len, vec_capacity}
use Rattle.transactions.specs.Works.{want_of, group_wants_of}
use Rattle.transactions.proofs.work.Work.wants.Given as goal

-- the first wants are wanted, and there is room for the others
abbrev pub invariant-loop-group_want : goal.invariant-loop-group_want
invariant-loop-group_want l = record {
  count : vec_len l.wants ≤ length (group_wants_of l.self);
  room : length (group_wants_of l.self) ≤ vec_capacity l.wants;
  items : l.wants.items ≡ map want_of (take (vec_len l.wants) (group_wants_of l.self));
}

abbrev pub decreases-loop-group_want : goal.decreases-loop-group_want
decreases-loop-group_want l = length (group_wants_of l.self) - vec_len l.wants
