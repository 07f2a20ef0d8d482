use Rattle.std.proofs.Common.{◌≡◌, ◌++◌}
use Rattle.workload.specs.NewOrders.{lines_drawn}
use Rattle.workload.proofs.new_order.lines.Given as goal

-- what is drawn, with the lines that are left to draw, makes all lines
abbrev pub invariant-loop-left : goal.invariant-loop-left
invariant-loop-left l = record {
  lines : l.lines.items ++ (lines_drawn l.terminal l.rolls_back l.left l.draws).0 ≡ (lines_drawn l.terminal l.rolls_back l.count l.initial.draws).0;
  generator : (lines_drawn l.terminal l.rolls_back l.left l.draws).1 ≡ (lines_drawn l.terminal l.rolls_back l.count l.initial.draws).1;
}
