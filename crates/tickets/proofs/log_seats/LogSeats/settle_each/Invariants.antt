use Rattle.std.proofs.Common.{◌≡◌, ◌++◌, map, take, drop}
use Rattle.tickets.specs.Claims.{all_claims}
use Rattle.tickets.specs.Committed.{all_settled}
use Rattle.tickets.specs.LogSeats.{after_all}
use Rattle.tickets.proofs.log_seats.LogSeats.settle_each.Given as goal

-- the claims of the first k actions are settled
abbrev pub invariant-loop-k : goal.invariant-loop-k
invariant-loop-k g l = record {
  contents : l.self ≡ map (after_all (all_claims (take l.k l.initial.held))) l.initial.self;
  held : l.held ≡ map all_settled (take l.k l.initial.held) ++ drop l.k l.initial.held;
}
