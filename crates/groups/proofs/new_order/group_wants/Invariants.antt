use Rattle.std.proofs.Common.{◌≡◌, take}
use Rattle.groups.proofs.NewOrderGroups.{group_wants_after}
use Rattle.groups.proofs.new_order.group_wants.Given as goal

abbrev pub invariant-loop-line : goal.invariant-loop-line
invariant-loop-line l = l.group_wants.items ≡ group_wants_after l.w_id l.d_id (take l.line-index l.line-items)
