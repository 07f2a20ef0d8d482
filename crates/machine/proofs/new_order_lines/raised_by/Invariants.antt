use Rattle.std.proofs.Common.{◌≡◌, ◌+◌, ◌*◌, ◌≤◌, drop, length}
use Rattle.std.specs.List.{sum_by, filter}
use Rattle.machine.specs.NewOrder.{taken_from, is_remote}
use Rattle.machine.proofs.new_order_lines.raised_by.Given as goal

abbrev pub invariant-loop-line : goal.invariant-loop-line
invariant-loop-line l = record {
  ytd : l.raised.ytd + sum_by (λ line. line.quantity) (taken_from l.key (drop l.line-index l.lines)) ≡ sum_by (λ line. line.quantity) (taken_from l.key l.lines);
  order_cnt : l.raised.order_cnt + length (taken_from l.key (drop l.line-index l.lines)) ≡ length (taken_from l.key l.lines);
  remote_cnt : l.raised.remote_cnt + length (filter (is_remote l.home) (taken_from l.key (drop l.line-index l.lines))) ≡ length (filter (is_remote l.home) (taken_from l.key l.lines));
  ytd_fits : l.raised.ytd ≤ 10 * l.line-index;
  order_cnt_fits : l.raised.order_cnt ≤ l.line-index;
  remote_cnt_fits : l.raised.remote_cnt ≤ l.line-index;
}
