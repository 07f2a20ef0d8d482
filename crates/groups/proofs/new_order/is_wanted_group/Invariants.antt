use Rattle.std.proofs.Common.{◌≡◌, false, take}
use Rattle.groups.proofs.NewOrderGroups.{is_wanted_group}
use Rattle.groups.proofs.new_order.is_wanted_group.Given as goal

abbrev pub invariant-loop-group_want : goal.invariant-loop-group_want
invariant-loop-group_want l = is_wanted_group l.group (take l.group_want-index l.group_wants) ≡ false
