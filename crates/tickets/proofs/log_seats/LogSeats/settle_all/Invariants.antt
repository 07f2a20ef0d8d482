use Rattle.std.proofs.Common.{◌≡◌, ◌++◌, map, take, drop}
use Rattle.tickets.specs.Claims.{settled}
use Rattle.tickets.specs.LogSeats.{after_all}
use Rattle.tickets.proofs.log_seats.LogSeats.settle_all.Given as goal

-- the first k claims are settled
abbrev pub invariant-loop-k : goal.invariant-loop-k
invariant-loop-k g l = record {
  contents : l.self ≡ map (after_all (take l.k l.initial.claims)) l.initial.self;
  claims : l.claims ≡ map settled (take l.k l.initial.claims) ++ drop l.k l.initial.claims;
}
