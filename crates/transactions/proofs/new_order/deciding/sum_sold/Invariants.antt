use Rattle.std.proofs.Common.{◌≡◌, ◌+◌, ◌*◌, ◌≤◌, drop, map}
use Rattle.machine.specs.NewOrder.{sum_of}
use Rattle.transactions.specs.declared.new_order.LineSold.{LineSold}
use Rattle.transactions.proofs.new_order.deciding.sum_sold.Given as goal

abbrev pub invariant-loop-line : goal.invariant-loop-line
invariant-loop-line l = record {
  sum : l.sum + sum_of (map (λ (line : LineSold). line.row) (drop l.line-index l.sold)) ≡ sum_of (map (λ (line : LineSold). line.row) l.sold);
  fits : l.sum ≤ 999999 * l.line-index;
}
