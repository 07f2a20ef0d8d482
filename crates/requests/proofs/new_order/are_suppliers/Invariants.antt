use Rattle.std.proofs.Common.{◌≡◌, drop}
use Rattle.std.specs.List.{list_all}
use Rattle.schema.specs.Scale.{has_warehouse}
use Rattle.requests.proofs.new_order.are_suppliers.Given as goal

abbrev pub invariant-loop-line : goal.invariant-loop-line
invariant-loop-line l = list_all (λ line. has_warehouse l.scale line.supply_w_id) (drop l.line-index l.lines) ≡ list_all (λ line. has_warehouse l.scale line.supply_w_id) l.lines
