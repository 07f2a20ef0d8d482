use Rattle.std.proofs.Common.{◌≡◌, drop}
use Rattle.std.specs.List.{list_all}
use Rattle.rows.specs.Ranged.{is_between}
use Rattle.requests.proofs.new_order.are_quantities.Given as goal

abbrev pub invariant-loop-line : goal.invariant-loop-line
invariant-loop-line l = list_all (λ line. is_between 1 10 line.quantity) (drop l.line-index l.lines) ≡ list_all (λ line. is_between 1 10 line.quantity) l.lines
