use Rattle.std.proofs.Common.{◌≡◌, false, take}
use Rattle.std.specs.List.{list_any}
use Rattle.groups.specs.Groups.{is_same}
use Rattle.transactions.proofs.new_order.phases.is_among.Given as goal

abbrev pub invariant-loop-own : goal.invariant-loop-own
invariant-loop-own l = list_any (λ own. is_same own l.group) (take l.own-index l.groups) ≡ false
