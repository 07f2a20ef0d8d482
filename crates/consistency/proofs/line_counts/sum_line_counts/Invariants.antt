use Rattle.std.proofs.Common.{◌≡◌, ◌*◌, ◌≤◌, length, map, sum}
use Rattle.rows.specs.declared.limits.TheConstants.{LAST_LINE}
use Rattle.consistency.proofs.line_counts.sum_line_counts.Given as goal

abbrev pub invariant-loop-order : goal.invariant-loop-order
invariant-loop-order l =
    (l.lines ≡ sum (map (λ order. order.1.now.ol_cnt) l.yielded)) × (l.lines ≤ LAST_LINE * length l.yielded)
