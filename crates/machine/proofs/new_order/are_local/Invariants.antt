use Rattle.std.proofs.Common.{◌≡◌, ◌==◌, drop}
use Rattle.std.specs.List.{list_all}
use Rattle.machine.proofs.new_order.are_local.Given as goal

abbrev pub invariant-loop-line : goal.invariant-loop-line
invariant-loop-line l = list_all (λ line. line.supply_w_id == l.home) (drop l.line-index l.lines) ≡ list_all (λ line. line.supply_w_id == l.home) l.lines
