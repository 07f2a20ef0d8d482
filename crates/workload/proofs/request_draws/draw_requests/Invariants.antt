use Rattle.std.proofs.Common.{◌≡◌, ◌++◌, drop}
use Rattle.workload.specs.Requests.{requests_drawn}
use Rattle.workload.proofs.request_draws.draw_requests.Given as goal

-- what is drawn, with the requests of the kinds that are left, makes all requests
abbrev pub invariant-loop-number : goal.invariant-loop-number
invariant-loop-number l = l.requests.items ++ requests_drawn l.terminal l.now l.number (drop l.number l.kinds) l.draws ≡ requests_drawn l.terminal l.now 0 l.kinds l.initial.draws
