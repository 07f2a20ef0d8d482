use Rattle.std.proofs.Common.{◌≡◌, ◌+◌, ◌++◌, length, take, vec_len, vec_capacity, map}
use Rattle.std.specs.List.{flat_map}
use Rattle.local_locks.specs.Granting.{AreGranted, claim_at}
use Rattle.local_locks.specs.Locks.{stand_in}
use Rattle.local_locks.specs.Rulings.{spots_of}
use Rattle.local_locks.proofs.granting.grant_all.Given as goal

abbrev pub invariant-loop-want : goal.invariant-loop-want
invariant-loop-want g l = record {
  claims : l.claims.items ≡ l.fn.claims.items ++ map (claim_at l.by (map stand_in l.fn.locks)) (flat_map spots_of (take l.want-index l.wants));
  count : vec_len l.claims ≡ vec_len l.fn.claims + length (flat_map spots_of (take l.want-index l.wants));
  room : vec_capacity l.claims ≡ vec_capacity l.fn.claims;
  granted : AreGranted g.J.GroupNames.warehouses l.by (flat_map spots_of (take l.want-index l.wants)) l.fn.locks l.locks;
}
