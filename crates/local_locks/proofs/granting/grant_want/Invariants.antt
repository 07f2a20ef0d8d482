use Rattle.std.proofs.Common.{◌≡◌, ◌+◌, ◌-◌, ◌++◌, vec_len, vec_capacity, map}
use Rattle.local_locks.specs.Granting.{AreGranted, claim_at}
use Rattle.local_locks.specs.Locks.{stand_in}
use Rattle.local_locks.specs.Rulings.{spots}
use Rattle.local_locks.proofs.granting.grant_want.Given as goal

abbrev pub invariant-loop-number : goal.invariant-loop-number
invariant-loop-number g l = record {
  claims : l.claims.items ≡ l.fn.claims.items ++ map (claim_at l.by (map stand_in l.fn.locks)) (spots l.first (l.number - l.first) l.want.mode);
  count : vec_len l.claims ≡ vec_len l.fn.claims + (l.number - l.first);
  room : vec_capacity l.claims ≡ vec_capacity l.fn.claims;
  granted : AreGranted g.J.GroupNames.warehouses l.by (spots l.first (l.number - l.first) l.want.mode) l.fn.locks l.locks;
}
