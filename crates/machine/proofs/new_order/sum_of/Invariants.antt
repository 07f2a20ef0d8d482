use Rattle.std.proofs.Common.{◌≡◌, ◌+◌, ◌*◌, ◌≤◌, drop}
use Rattle.machine.specs.NewOrder.{sum_of}
use Rattle.machine.proofs.new_order.sum_of.Given as goal

abbrev pub invariant-loop-row : goal.invariant-loop-row
invariant-loop-row l = record {
  sum : l.sum + sum_of (drop l.row-index l.rows) ≡ sum_of l.rows;
  fits : l.sum ≤ 999999 * l.row-index;
}
