use Rattle.std.proofs.Common.{◌≡◌, ◌*◌, ◌^◌, ◌≤◌, length, map, take, sum}
use Rattle.dataset.proofs.histories.count.Given as goal

abbrev pub invariant-loop-list : goal.invariant-loop-list
invariant-loop-list l = (l.count ≡ sum (map length (take l.list-index l.lists))) × (l.count ≤ l.list-index * 2 ^ 64)
